use Rattle.std.proofs.Common.{◌≡◌, take}
use Rattle.recovery.specs.Correct.{amply}
use Rattle.recovery.specs.Healing.{comes_to}
use Rattle.healer.specs.Courses.{Goes}
use Rattle.healer.proofs.healer.bring_to_each.Given as goal

abbrev pub invariant-loop-replica : goal.invariant-loop-replica
invariant-loop-replica l = record {
  origin : l.healer.origin ≡ l.initial.healer.origin;
  came : Goes l.initial.healer (λ w. amply (comes_to (take l.replica-index l.replicas) l.frames)) l.healer;
}
