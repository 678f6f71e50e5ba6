-- The text is its own front.
use Rattle.std.proofs.Common.{refl, sym, subst, arith}
use Rattle.std.proofs.lemmas.List.{take_all}
use Rattle.definitions.specs.Items.{HasNoEnd}
use Rattle.worked_examples.proofs.lines.a_line_is_too_long_at_4096_bytes.Goals as goal

pub returns : goal.returns
returns c text long none = (omega arith, subst HasNoEnd (sym (take_all 4096 text (omega arith))) none, refl)
