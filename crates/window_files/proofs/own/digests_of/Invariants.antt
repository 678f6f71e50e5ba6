-- The digests so far are shown.
use Rattle.window_files.specs.Windows.{AreShown}
use Rattle.window_files.proofs.own.digests_of.Given as goal

abbrev pub invariant-loop-place : goal.invariant-loop-place
invariant-loop-place l = AreShown l.replica.replica.chronicle l.head.lowest l.place l.digests.items
