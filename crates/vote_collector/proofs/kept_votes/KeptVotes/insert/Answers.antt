use Rattle.std.proofs.Common.{◌≡◌, ◌∙◌, ap, ℕ, List}
use Rattle.std.specs.List.{insert}
use Rattle.definitions.specs.Frames.{Vote}
use Rattle.definitions.specs.States.{insert_vote}
use Rattle.vote_collector.specs.Collecting.{Entry}
use Rattle.vote_collector.proofs.Kept.{place, inserted}
use Rattle.vote_collector.proofs.kept_votes.KeptVotes.insert.Goals as goal

pub returns-clause-inserted : goal.returns-clause-inserted
returns-clause-inserted c =
    let b : Vote = c.args.vote in
    let bs : List Vote = c.self.inside.votes.items in
    let at : c.place_of-place.result ≡ place b.voter bs
    =
    c.place_of-place.ensures.place ∙ ap (λ (v : ℕ). place v c.as_slice.result.now) c.voter.ensures
    ∙ ap (place b.voter) c.as_slice.ensures.value in
    let new : c.insert.new.self.items ≡ insert_vote b bs =
    c.in_ok-insert.ensures.items ∙ ap (λ (p : ℕ). insert bs p b) at ∙ inserted b bs in
    ap (λ (l : List Vote). record { height = c.self.inside.height; votes = l }) new
    ∙ ap (λ (e : Entry). record { height = e.height; votes = insert_vote b e.votes }) c.self.view_is
