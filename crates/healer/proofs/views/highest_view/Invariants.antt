use Rattle.std.proofs.Common.{◌≡◌, take}
use Rattle.recovery.specs.Healing.{highest_view}
use Rattle.healer.specs.Courses.{ToldWhere, AreCorrect}
use Rattle.healer.proofs.views.highest_view.Given as goal

abbrev pub invariant-loop-replica : goal.invariant-loop-replica
invariant-loop-replica l =
    ToldWhere l.healer (AreCorrect l.replicas) (λ w. l.highest ≡ highest_view w (take l.replica-index l.replicas))
