use Rattle.replica.proofs.Walking.{AreKeys}
use Rattle.replica.proofs.branch.keys_between.Given as goal

abbrev pub invariant-loop-height : goal.invariant-loop-height
invariant-loop-height l = AreKeys l.tip l.tree l.from l.to l.height l.keys.items
