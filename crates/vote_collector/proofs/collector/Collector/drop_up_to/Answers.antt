use Rattle.std.proofs.Common.{sym, subst}
use Rattle.vote_collector.specs.Collecting.{AreVotesOf}
use Rattle.vote_collector.proofs.Entries.{fit-above}
use Rattle.vote_collector.proofs.collector.Collector.drop_up_to.Goals as goal

pub invariant_of-self : goal.invariant_of-self
invariant_of-self c = subst (AreVotesOf c.self.inside.config) (sym c.drop_from.ensures)
    (fit-above c.self.inside.config c.self.inside.blocks.entries c.self.invariant c.args.height)
