use Rattle.std.proofs.Common.{sym, subst}
use Rattle.definitions.specs.FrameLimits.{IsVote}
use Rattle.vote_collector.specs.Collecting.{Collected, AreVotesOf}
use Rattle.vote_collector.proofs.Entries.{fit-with, either}
use Rattle.vote_collector.proofs.collector.Collector.add.Goals as goal

pub invariant_of-self : goal.invariant_of-self
invariant_of-self c =
    let sizes = c.self.inside.config in
    let kept = c.self.inside.blocks.entries in
    let fits : IsVote sizes c.args.vote =
    subst (λ (v : Collected). IsVote v.sizes c.args.vote) (sym c.self.view_is) c.requires in
    either c.add_to.result c.add_to.ensures.kept c.add_to.ensures.unchanged
    (λ e. subst (AreVotesOf sizes) (sym e)
    (fit-with sizes kept c.self.invariant c.args.digest c.args.height c.args.vote fits))
    (λ e. subst (AreVotesOf sizes) (sym e) c.self.invariant)
