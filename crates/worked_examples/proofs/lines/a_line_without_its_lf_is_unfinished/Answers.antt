-- The CR at the end is no end.
use Rattle.std.proofs.Common.{inl, refl, arith}
use Rattle.std.specs.Prelude.{codes}
use Rattle.definitions.proofs.ItemLaws.{word_has_no_end, cr_has_none}
use Rattle.worked_examples.proofs.lines.a_line_without_its_lf_is_unfinished.Goals as goal

pub returns : goal.returns
returns c = inl (omega arith, cr_has_none (codes "set a 0 0 1") (word_has_no_end (codes "set a 0 0 1") refl))
