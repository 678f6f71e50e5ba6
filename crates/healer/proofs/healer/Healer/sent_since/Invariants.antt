use Rattle.std.proofs.Common.{◌≡◌, ◌-◌, take, drop}
use Rattle.recovery.specs.Healing.{numbers_of}
use Rattle.healer.specs.Courses.{Told}
use Rattle.healer.specs.Records.{is_of}
use Rattle.healer.proofs.healer.Healer.sent_since.Given as goal

abbrev pub invariant-loop-number : goal.invariant-loop-number
invariant-loop-number l =
    Told l.self (λ w.
    l.numbers.items ≡ numbers_of (is_of l.kind) l.before (take (l.number - l.before) (drop l.before w.sent)))
