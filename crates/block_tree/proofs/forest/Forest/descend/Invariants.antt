use Rattle.std.proofs.Common.{◌+◌, ◌-◌}
use Rattle.std.specs.Prelude.{count_ones}
use Rattle.definitions.specs.Trees.{blocks}
use Rattle.block_tree.proofs.Descending.{Descending}
use Rattle.block_tree.proofs.forest.Forest.descend.Given as goal

abbrev pub invariant-descend : goal.invariant-descend
invariant-descend l = Descending (blocks l.self.all) (l.self.horizon - 2) l.from l.distance l.at l.rest
    l.level
    l.turns (l.initial.turns + count_ones l.distance)

abbrev pub decreases-descend : goal.decreases-descend
decreases-descend l = l.rest
