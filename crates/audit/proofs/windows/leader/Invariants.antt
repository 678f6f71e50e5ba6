-- It leads those before.
use Rattle.std.proofs.Common.{take}
use Rattle.audit.specs.Judged.{member_of, judged}
use Rattle.audit.proofs.Leading.{IsLeading}
use Rattle.audit.proofs.windows.leader.Given as goal

abbrev pub invariant-loop-replica : goal.invariant-loop-replica
invariant-loop-replica l =
    IsLeading (judged l.replicas) (judged (take l.replica-index l.replicas)) (member_of l.leader)
