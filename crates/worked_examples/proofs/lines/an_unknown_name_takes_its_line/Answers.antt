-- The line is read.
use Rattle.std.proofs.Common.{[], refl, arith}
use Rattle.std.specs.Prelude.{codes}
use Rattle.std.specs.Fmt.{digits}
use Rattle.definitions.proofs.Lines.{head_at, head_in}
use Rattle.worked_examples.proofs.LineSteps.{item_at}
use Rattle.worked_examples.proofs.lines.an_unknown_name_takes_its_line.Goals as goal

pub returns : goal.returns
unfolding head_at head_in digits
returns c = item_at (codes "touch a 0") ([]) _ _ refl (omega arith) refl
