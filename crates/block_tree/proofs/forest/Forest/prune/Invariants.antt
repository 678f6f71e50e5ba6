use Rattle.std.proofs.Common.{◌≡◌, ◌+◌, ◌-◌, length}
use Rattle.block_tree.proofs.forest.Forest.prune.Given as goal

abbrev pub invariant-drop : goal.invariant-drop
invariant-drop l = record {
  horizon : l.self.horizon ≡ l.fn.horizon;
  all : l.self.all ≡ l.initial.self.all;
}

abbrev pub decreases-drop : goal.decreases-drop
decreases-drop l = length l.self.all + 1 - l.self.first
