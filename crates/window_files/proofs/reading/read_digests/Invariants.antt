-- The digests so far are read.
use Rattle.window_files.proofs.Digests.{AreRead}
use Rattle.window_files.proofs.reading.read_digests.Given as goal

abbrev pub invariant-loop-place : goal.invariant-loop-place
invariant-loop-place l = AreRead l.place l.text l.digests.items l.rest
