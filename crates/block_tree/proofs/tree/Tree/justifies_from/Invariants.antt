-- The block that was reached is as many steps below the first one, and decides the same, where all are in reach. Below
-- the last block there may be none.
use Rattle.std.proofs.Common.{◌≡◌, ◌+◌, ◌-◌, ◌<◌, ◌≤◌, Some, true, length}
use Rattle.std.specs.Prelude.{option_map}
use Rattle.ids.specs.declared.limits.TheConstants.{BELOW_HORIZON}
use Rattle.definitions.specs.Trees.{blocks, find_in}
use Rattle.block_tree.specs.Finding.{justifies_in}
use Rattle.block_tree.proofs.tree.Tree.justifies_from.Given as goal

abbrev pub invariant-loop : goal.invariant-loop
invariant-loop l = record {
  reached : l.self.horizon ≤ l.fn.height + BELOW_HORIZON → l.counter < l.end
      → option_map length (find_in l.at (blocks l.self.stored)) ≡ Some (l.end - (l.counter - l.fn.height));
  same : l.self.horizon ≤ l.fn.height + BELOW_HORIZON → l.counter < l.end
      → justifies_in l.fn.least l.fn.height l.at (blocks l.self.stored)
      ≡ justifies_in l.fn.least l.fn.height l.digest (blocks l.self.stored);
  done : l.self.horizon ≤ l.fn.height + BELOW_HORIZON → l.end ≤ l.counter
      → true ≡ justifies_in l.fn.least l.fn.height l.digest (blocks l.self.stored);
}
