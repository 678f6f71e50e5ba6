use Rattle.std.proofs.Common.{◌≡◌, map, take}
use Rattle.recovery.specs.Healing.{fetch_block, in_turn}
use Rattle.healer.specs.Courses.{GoesWhere, AreCorrect}
use Rattle.healer.proofs.fetching.fetch_for_all.Given as goal

abbrev pub invariant-loop-replica : goal.invariant-loop-replica
invariant-loop-replica l = record {
  origin : l.healer.origin ≡ l.initial.healer.origin;
  came : GoesWhere l.initial.healer (AreCorrect l.correct)
      (in_turn (map (fetch_block l.block) (take l.replica-index l.replica-items))) l.healer;
}
