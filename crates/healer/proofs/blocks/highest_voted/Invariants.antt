use Rattle.std.proofs.Common.{◌≡◌, take}
use Rattle.recovery.specs.Healing.{highest_voted}
use Rattle.healer.specs.Courses.{ToldWhere, AreCorrect}
use Rattle.healer.proofs.blocks.highest_voted.Given as goal

abbrev pub invariant-loop-replica : goal.invariant-loop-replica
invariant-loop-replica l =
    ToldWhere l.healer (AreCorrect l.replicas) (λ w. l.highest ≡ highest_voted w (take l.replica-index l.replicas))
