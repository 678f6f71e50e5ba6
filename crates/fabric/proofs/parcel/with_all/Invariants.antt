-- What those so far take.
use Rattle.std.proofs.Common.{◌≡◌, fold, take}
use Rattle.fabric.specs.Sizes.{with_one}
use Rattle.fabric.proofs.parcel.with_all.Given as goal

abbrev pub invariant-loop-frame : goal.invariant-loop-frame
invariant-loop-frame l = l.size ≡ fold with_one l.fn.size (take l.frame-index l.frames)
