-- The line quit is read, and no more.
use Rattle.std.proofs.Common.{◌++◌, refl, arith}
use Rattle.std.specs.Prelude.{codes}
use Rattle.std.specs.Fmt.{digits}
use Rattle.definitions.proofs.Lines.{head_at, head_in}
use Rattle.definitions.specs.Requests.{crlf}
use Rattle.worked_examples.proofs.LineSteps.{item_at}
use Rattle.worked_examples.proofs.lines.nothing_is_read_after_quit.Goals as goal

pub returns : goal.returns
unfolding head_at head_in digits
returns c = (6, item_at (codes "quit") (codes "get a" ++ crlf) _ _ refl (omega arith) refl, refl)
