use Rattle.audit.proofs.Numbers.{AreDistinctFrom}
use Rattle.audit.proofs.enough.are_distinct.Given as goal

abbrev pub invariant-loop-i : goal.invariant-loop-i
invariant-loop-i g l = AreDistinctFrom g.J.Judged.held l.i l.replicas
