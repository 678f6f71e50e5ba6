-- The lines are read, one after the other.
use Rattle.std.proofs.Common.{[], ◌++◌, refl, arith, inl}
use Rattle.std.specs.Prelude.{codes}
use Rattle.std.specs.Fmt.{digits}
use Rattle.definitions.proofs.Lines.{head_at, head_in}
use Rattle.definitions.specs.Requests.{crlf}
use Rattle.definitions.proofs.ItemLaws.{word_has_no_end}
use Rattle.worked_examples.proofs.LineSteps.{item_at}
use Rattle.worked_examples.proofs.lines.the_line_after_an_unknown_name_is_read.Goals as goal

pub returns : goal.returns
unfolding head_at head_in digits
returns c = (
  11,
  item_at (codes "touch a 0") (codes "get a" ++ crlf) _ _ refl (omega arith) refl,
  (7, item_at (codes "get a") [] _ _ refl (omega arith) refl, inl (omega arith, word_has_no_end [] refl)),
)
