use Rattle.std.proofs.Common.{◌≡◌, map, take}
use Rattle.recovery.specs.Healing.{in_turn}
use Rattle.healer.specs.Courses.{GoesWhere, AreCorrect}
use Rattle.healer.specs.Fetching.{fetch_by}
use Rattle.healer.proofs.fetching.fetch_all.Given as goal

abbrev pub invariant-loop-digest : goal.invariant-loop-digest
invariant-loop-digest l = record {
  origin : l.healer.origin ≡ l.initial.healer.origin;
  came : GoesWhere l.initial.healer (AreCorrect l.correct) (in_turn (map fetch_by (take l.digest-index l.digests)))
      l.healer;
}
