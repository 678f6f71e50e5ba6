use Rattle.std.proofs.Common.{◌≡◌, map, take}
use Rattle.recovery.specs.Healing.{waits_until, in_turn}
use Rattle.healer.specs.Courses.{GoesWhere, AreCorrect}
use Rattle.healer.proofs.views.come_to.Given as goal

abbrev pub invariant-loop-replica : goal.invariant-loop-replica
invariant-loop-replica l = record {
  origin : l.healer.origin ≡ l.initial.healer.origin;
  came : GoesWhere l.initial.healer (AreCorrect l.correct)
      (in_turn (map (waits_until l.view) (take l.replica-index l.correct))) l.healer;
}
