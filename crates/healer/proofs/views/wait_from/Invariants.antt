use Rattle.std.proofs.Common.{◌≡◌, ◌<◌, ◌-◌}
use Rattle.recovery.specs.Correct.{amply}
use Rattle.recovery.specs.Healing.{timeouts}
use Rattle.healer.specs.Courses.{Goes}
use Rattle.healer.proofs.views.wait_from.Given as goal

abbrev pub invariant-loop-passed : goal.invariant-loop-passed
invariant-loop-passed l = record {
  origin : l.healer.origin ≡ l.initial.healer.origin;
  within : l._passed-end < l.initial._passed → l._passed ≡ l.initial._passed;
  waited : Goes l.initial.healer (λ w. amply (timeouts l.replica (l._passed - l.initial._passed))) l.healer;
}
