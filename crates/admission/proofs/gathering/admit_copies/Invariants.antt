-- What was gathered of the frames so far.
use Rattle.std.proofs.Common.{take}
use Rattle.admission.specs.Gathering.{HasGathered}
use Rattle.admission.proofs.gathering.admit_copies.Given as goal

abbrev pub invariant-loop-bytes : goal.invariant-loop-bytes
invariant-loop-bytes l = HasGathered l.keyring (take l.bytes-index l.frames) l.gathering
