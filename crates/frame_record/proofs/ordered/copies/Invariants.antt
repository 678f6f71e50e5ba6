use Rattle.std.proofs.Common.{◌≡◌, ◌+◌, ◌++◌, drop, length}
use Rattle.frame_record.specs.Recording.{frames_of, within}
use Rattle.frame_record.proofs.ordered.copies.Given as goal

abbrev pub invariant-loop-i : goal.invariant-loop-i
invariant-loop-i l = record {
  given : l.copies.items ++ within l.left (frames_of (drop l.i l.frames.items))
      ≡ within l.fn.most (frames_of (drop l.fn.place l.frames.items));
  counted : length l.copies.items + l.fn.place ≡ l.i;
}
