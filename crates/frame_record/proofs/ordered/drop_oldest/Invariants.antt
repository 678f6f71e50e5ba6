use Rattle.std.proofs.Common.{◌≡◌, length}
use Rattle.frame_record.specs.Costs.{cost, fitting}
use Rattle.frame_record.proofs.ordered.drop_oldest.Given as goal

abbrev pub invariant-loop-left : goal.invariant-loop-left
invariant-loop-left l = record {
  counted : l.left ≡ cost l.frames.items;
  fits : fitting l.most l.frames.items ≡ fitting l.most l.fn.frames.items;
}

abbrev pub decreases-loop-left : goal.decreases-loop-left
decreases-loop-left l = length l.frames.items
