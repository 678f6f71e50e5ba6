-- The line is read.
use Rattle.std.proofs.Common.{[], refl, arith}
use Rattle.std.specs.Prelude.{codes}
use Rattle.std.specs.Fmt.{digits}
use Rattle.definitions.proofs.Lines.{head_at, head_in}
use Rattle.worked_examples.proofs.LineSteps.{item_at}
use Rattle.worked_examples.proofs.lines.quit_takes_no_field.Goals as goal

pub returns : goal.returns
unfolding head_at head_in digits
returns c = item_at (codes "quit x") ([]) _ _ refl (omega arith) refl
