-- Those before are compared.
use Rattle.std.proofs.Common.{take}
use Rattle.audit.specs.Judged.{member_of, judged}
use Rattle.audit.proofs.Leading.{AreCompared}
use Rattle.audit.proofs.windows.compare.Given as goal

abbrev pub invariant-loop-replica : goal.invariant-loop-replica
invariant-loop-replica l =
    AreCompared (judged l.replicas) (judged (take l.replica-index l.replicas)) (member_of l.leader) l.unmet
