-- It is the first kind of unfinished text.
use Rattle.std.proofs.Common.{inl, arith}
use Rattle.worked_examples.proofs.lines.a_line_is_unfinished_at_4095_bytes.Goals as goal

pub returns : goal.returns
returns c text long none = inl (omega arith, none)
