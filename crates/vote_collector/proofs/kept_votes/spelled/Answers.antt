use Rattle.std.proofs.Common.{◌≡◌, ◌∙◌, ◌++◌, ap, List, ℕ, take, drop}
use Rattle.std.specs.List.{flat_map}
use Rattle.definitions.specs.Bytes.{Bytes}
use Rattle.definitions.specs.Frames.{Vote, vote_bytes}
use Rattle.frames_view.specs.Views.{vote_of}
use Rattle.vote_collector.proofs.Kept.{place, spelled_with}
use Rattle.vote_collector.proofs.kept_votes.spelled.Goals as goal

pub returns-clause-bytes : goal.returns-clause-bytes
returns-clause-bytes c =
    let b : Vote = vote_of c.args.vote.now in
    let ks : List Vote = c.args.votes.now in
    let at : c.place_of.result ≡ place b.voter ks =
    c.place_of.ensures.place ∙ ap (λ (v : ℕ). place v ks) c.voter.ensures in
    let front : c.split_at.result.0.now ≡ take (place b.voter ks) ks =
    c.split_at.ensures.front ∙ ap (λ (p : ℕ). take p ks) at in
    let back : c.split_at.result.1.now ≡ drop (place b.voter ks) ks =
    c.split_at.ensures.back ∙ ap (λ (p : ℕ). drop p ks) at in
    let before : c.write_votes.new.bytes.items ≡ flat_map vote_bytes (take (place b.voter ks) ks)
    =
    c.in_ok-write_votes.ensures.bytes
    ∙ ap (λ (l : Bytes). l ++ flat_map vote_bytes c.split_at.result.0.now) c.new-bytes.ensures.items
    ∙ ap (flat_map vote_bytes) front in
    let own : c.write_certified_vote.new.out.items ≡ c.write_votes.new.bytes.items ++ vote_bytes b =
    c.in_ok-write_certified_vote.ensures.appended
    ∙ (λ i. c.write_votes.new.bytes.items ++ vote_bytes
    (record { voter = c.voter-2.ensures i; vector = c.vector.ensures.value i })) in
    c.in_ok-write_votes-2.ensures.bytes
    ∙ ap (λ (l : Bytes). l ++ flat_map vote_bytes c.split_at.result.1.now)
    (own ∙ ap (λ (l : Bytes). l ++ vote_bytes b) before)
    ∙ ap (λ (l : List Vote). (flat_map vote_bytes (take (place b.voter ks) ks) ++ vote_bytes b)
    ++ flat_map vote_bytes l) back ∙ spelled_with b ks
