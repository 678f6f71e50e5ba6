use Rattle.block_tree.proofs.Newest.{Looking}
use Rattle.block_tree.proofs.forest.Forest.nth_newest.Given as goal

abbrev pub invariant-back : goal.invariant-back
invariant-back l = Looking l.self l.newer l.at l.rest

abbrev pub decreases-back : goal.decreases-back
decreases-back l = l.at
