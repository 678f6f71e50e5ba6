use Rattle.std.proofs.Common.{ap, ◌∙◌}
use Rattle.vote_collector.specs.Collecting.{Collected, votes_for}
use Rattle.vote_collector.proofs.Entries.{found-votes, found-none}
use Rattle.vote_collector.proofs.collector.Collector.votes.Goals as goal

pub returns-in-Some : goal.returns-in-Some
returns-in-Some c =
    c.votes.ensures
    ∙ found-votes c.args.digest.now c.self.inside.blocks.entries c.in-Some.kept.now
    c.in-Some.ensures.value
    ∙ ap (λ (v : Collected). votes_for c.args.digest.now v.kept) c.self.view_is

pub returns-in-None : goal.returns-in-None
returns-in-None c =
    found-none c.args.digest.now c.self.inside.blocks.entries c.in-None.ensures.value
    ∙ ap (λ (v : Collected). votes_for c.args.digest.now v.kept) c.self.view_is
