use Rattle.std.proofs.Common.{◌≡◌, map, take}
use Rattle.recovery.specs.Healing.{ask_one, in_turn}
use Rattle.healer.specs.Courses.{GoesWhere, AreCorrect}
use Rattle.healer.proofs.fetching.ask_each.Given as goal

abbrev pub invariant-loop-to : goal.invariant-loop-to
invariant-loop-to l = record {
  origin : l.healer.origin ≡ l.initial.healer.origin;
  came : GoesWhere l.initial.healer (AreCorrect l.correct)
      (in_turn (map (ask_one l.block l.replica) (take l.to-index l.correct))) l.healer;
}
