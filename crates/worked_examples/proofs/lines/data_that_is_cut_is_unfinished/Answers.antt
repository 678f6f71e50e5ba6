-- The line is read.
use Rattle.std.proofs.Common.{refl, arith}
use Rattle.std.specs.Prelude.{codes}
use Rattle.std.specs.Fmt.{digits}
use Rattle.definitions.proofs.Lines.{head_at, head_in}
use Rattle.worked_examples.proofs.LineSteps.{open_at}
use Rattle.worked_examples.proofs.lines.data_that_is_cut_is_unfinished.Goals as goal

pub returns : goal.returns
unfolding head_at head_in digits
returns c = open_at (codes "set a 0 0 1") (codes "xy") refl (omega arith) refl
