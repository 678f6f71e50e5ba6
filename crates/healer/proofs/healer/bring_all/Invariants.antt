use Rattle.std.proofs.Common.{◌≡◌, map, take}
use Rattle.definitions.specs.Worlds.{Event.relay}
use Rattle.recovery.specs.Correct.{amply}
use Rattle.healer.specs.Courses.{Goes}
use Rattle.healer.proofs.healer.bring_all.Given as goal

abbrev pub invariant-loop-frame : goal.invariant-loop-frame
invariant-loop-frame l = record {
  origin : l.healer.origin ≡ l.initial.healer.origin;
  came : Goes l.initial.healer (λ w. amply (map (λ k. relay k l.to) (take l.frame-index l.frames))) l.healer;
}
