use Rattle.std.proofs.Common.{◌≡◌, map, take}
use Rattle.definitions.specs.Worlds.{Event.offer, Source.of_record}
use Rattle.recovery.specs.Correct.{amply}
use Rattle.healer.specs.Courses.{Goes}
use Rattle.healer.proofs.healer.offer_all.Given as goal

abbrev pub invariant-loop-frame : goal.invariant-loop-frame
invariant-loop-frame l = record {
  origin : l.healer.origin ≡ l.initial.healer.origin;
  came : Goes l.initial.healer (λ w. amply (map (λ k. offer l.to (of_record k)) (take l.frame-index l.frames))) l.healer;
}
