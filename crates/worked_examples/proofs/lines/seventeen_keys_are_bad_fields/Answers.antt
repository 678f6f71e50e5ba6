-- The line is read.
use Rattle.std.proofs.Common.{[], refl, arith}
use Rattle.std.specs.Prelude.{codes}
use Rattle.std.specs.Fmt.{digits}
use Rattle.definitions.proofs.Lines.{head_at, head_in}
use Rattle.worked_examples.proofs.LineSteps.{item_at}
use Rattle.worked_examples.proofs.lines.seventeen_keys_are_bad_fields.Goals as goal

pub returns : goal.returns
unfolding head_at head_in digits
returns c = item_at (codes "get a b c d e f g h i j k l m n o p q") ([]) _ _ refl (omega arith) refl
