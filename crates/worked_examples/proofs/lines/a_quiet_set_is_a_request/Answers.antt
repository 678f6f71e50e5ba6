-- The line is read.
use Rattle.std.proofs.Common.{◌++◌, refl, arith}
use Rattle.std.specs.Prelude.{codes}
use Rattle.std.specs.Fmt.{digits}
use Rattle.definitions.proofs.Lines.{head_at, head_in}
use Rattle.definitions.specs.Requests.{crlf}
use Rattle.worked_examples.proofs.LineSteps.{item_at}
use Rattle.worked_examples.proofs.lines.a_quiet_set_is_a_request.Goals as goal

pub returns : goal.returns
unfolding head_at head_in digits
returns c = item_at (codes "set a 0 0 1 noreply") (codes "x" ++ crlf) _ _ refl (omega arith) refl
