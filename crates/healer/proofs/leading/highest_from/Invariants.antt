use Rattle.std.proofs.Common.{◌≡◌, ◌-◌, length, drop}
use Rattle.recovery.specs.Healing.{highest_locked}
use Rattle.healer.specs.Courses.{ToldWhere, AreCorrect}
use Rattle.healer.proofs.leading.highest_from.Given as goal

abbrev pub invariant-loop-behind : goal.invariant-loop-behind
invariant-loop-behind l =
    ToldWhere l.healer (AreCorrect l.replicas)
    (λ w. l.best ≡ highest_locked w (drop (length l.replicas - l.behind) l.replicas))
