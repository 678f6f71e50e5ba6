use Rattle.std.proofs.Common.{◌≡◌, take}
use Rattle.recovery.specs.Healing.{newcomers}
use Rattle.healer.specs.Courses.{ToldWhere, AreCorrect}
use Rattle.healer.proofs.leading.newcomers.Given as goal

abbrev pub invariant-loop-replica : goal.invariant-loop-replica
invariant-loop-replica l =
    ToldWhere l.healer (AreCorrect l.replicas)
    (λ w. l.found.items ≡ newcomers w (take l.replica-index l.replicas))
