use Rattle.std.proofs.Common.{◌≡◌}
use Rattle.healer.specs.Courses.{Goes}
use Rattle.healer.specs.Served.{heal_below}
use Rattle.healer.proofs.heal.heal_all.Given as goal

abbrev pub invariant-loop-client : goal.invariant-loop-client
invariant-loop-client l = record {
  origin : l.healer.origin ≡ l.initial.healer.origin;
  turns : Goes l.initial.healer (heal_below l.client) l.healer;
}
