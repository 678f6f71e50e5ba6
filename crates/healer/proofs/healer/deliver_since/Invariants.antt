use Rattle.std.proofs.Common.{◌≡◌}
use Rattle.healer.specs.Courses.{GoesWhere, AreCorrect}
use Rattle.healer.specs.Records.{is_of}
use Rattle.healer.proofs.Records.{delivered_below}
use Rattle.healer.proofs.healer.deliver_since.Given as goal

abbrev pub invariant-loop-frame : goal.invariant-loop-frame
invariant-loop-frame l = record {
  origin : l.healer.origin ≡ l.initial.healer.origin;
  came : GoesWhere l.initial.healer (AreCorrect l.correct) (delivered_below (is_of l.kind) l.before l.frame) l.healer;
}
