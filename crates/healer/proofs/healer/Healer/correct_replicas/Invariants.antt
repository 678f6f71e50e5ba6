use Rattle.std.proofs.Common.{◌≡◌}
use Rattle.recovery.specs.Correct.{correct_below}
use Rattle.healer.specs.Courses.{Told}
use Rattle.healer.proofs.healer.Healer.correct_replicas.Given as goal

abbrev pub invariant-loop-number : goal.invariant-loop-number
invariant-loop-number l = Told l.self (λ w. l.correct.items ≡ correct_below w l.number)
