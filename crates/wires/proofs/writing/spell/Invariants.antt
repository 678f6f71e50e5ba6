use Rattle.std.proofs.Common.{◌≡◌, ◌++◌, take}
use Rattle.wire_frames.specs.Framing.{stream}
use Rattle.wires.proofs.writing.spell.Given as goal

abbrev pub invariant-loop-frame : goal.invariant-loop-frame
invariant-loop-frame l = l.out.items ≡ l.initial.out.items ++ stream (take l.frame-index l.frames)
