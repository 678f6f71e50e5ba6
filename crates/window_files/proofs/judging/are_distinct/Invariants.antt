use Rattle.window_files.proofs.Leading.{AreDistinctFrom}
use Rattle.window_files.proofs.judging.are_distinct.Given as goal

abbrev pub invariant-loop-i : goal.invariant-loop-i
invariant-loop-i l = AreDistinctFrom l.i l.windows
