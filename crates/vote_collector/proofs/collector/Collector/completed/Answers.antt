use Rattle.std.proofs.Common.{◌≡◌, ◌∙◌, ap, sym, subst, ℕ, List}
use Rattle.std.specs.List.{flat_map}
use Rattle.ids.specs.Sizes.{quorum}
use Rattle.definitions.specs.Frames.{Vote, vote_bytes}
use Rattle.definitions.specs.FrameLimits.{IsVote}
use Rattle.definitions.specs.States.{insert_vote}
use Rattle.frames_view.specs.Spelled.{AreVotes}
use Rattle.frames_view.specs.Views.{vote_of}
use Rattle.vote_collector.specs.declared.added.Added.TheVariants.{Complete}
use Rattle.vote_collector.specs.Collecting.{Collected, votes_for, judged}
use Rattle.vote_collector.proofs.Entries.{fit-made}
use Rattle.vote_collector.proofs.collector.Collector.completed.Goals as goal

-- the votes that the bytes spell
are : (c : goal.After-of_votes-arg-1)
    → AreVotes c.self.inside.config c.quorum-quorum.result c.in_ok-bytes.bytes.items
    (insert_vote (vote_of c.args.vote.now) (votes_for c.args.digest.now c.self.inside.blocks.entries))
are c =
    let d = c.args.digest.now in
    let b : Vote = vote_of c.args.vote.now in
    let kept = c.self.inside.blocks.entries in
    let sizes = c.self.inside.config in
    let fits : IsVote sizes b =
    subst (λ (v : Collected). IsVote v.sizes b) (sym c.self.view_is) c.requires.vote in
    let complete : judged (quorum sizes) b.voter (votes_for d kept) ≡ Complete =
    ap (λ (v : Collected). judged (quorum v.sizes) b.voter (votes_for d v.kept)) c.self.view_is
    ∙ c.requires.complete in
    let votes : c.votes.result.now ≡ votes_for d kept =
    c.votes.ensures ∙ ap (λ (v : Collected). votes_for d v.kept) (sym c.self.view_is) in
    let bytes =
    c.in_ok-bytes.ensures.bytes ∙ ap (λ (l : List Vote). flat_map vote_bytes (insert_vote b l)) votes in
    subst (λ (n : ℕ). AreVotes sizes n c.in_ok-bytes.bytes.items (insert_vote b (votes_for d kept)))
    (sym c.quorum-quorum.ensures)
    (fit-made sizes kept c.self.invariant d b c.in_ok-bytes.bytes.items fits complete bytes)

pub of_votes-requires : goal.of_votes-requires
of_votes-requires c =
    (insert_vote (vote_of c.args.vote.now) (votes_for c.args.digest.now c.self.inside.blocks.entries), are c)

pub returns-clause-made : goal.returns-clause-made
returns-clause-made c =
    c.of_votes.ensures
    (insert_vote (vote_of c.args.vote.now) (votes_for c.args.digest.now c.self.inside.blocks.entries))
    (are c.before)
    ∙ ap (λ (v : Collected). record {
      digest = c.args.digest.now;
      votes = insert_vote (vote_of c.args.vote.now) (votes_for c.args.digest.now v.kept);
    })
    c.self.view_is
