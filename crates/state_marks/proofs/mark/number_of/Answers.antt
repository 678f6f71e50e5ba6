use Rattle.std.proofs.Common.{[], ◌∷◌, Some}
use Rattle.std.proofs.lemmas.Bool.Decides.{Decides-eqb}
use Rattle.std.proofs.lemmas.Slice.Eq.{strip_suffix_is}
use Rattle.state_marks.proofs.Reading.{number_read}
use Rattle.state_marks.proofs.mark.number_of.Goals as goal

pub returns : goal.returns
returns c =
    number_read c.args.text.now c.in_ok-strip_suffix.field-0.now c.read_number.result
    (strip_suffix_is Decides-eqb c.args.text.now (10 ∷ []) (Some c.in_ok-strip_suffix.field-0)
    c.in_ok-strip_suffix.ensures.cases)
    c.read_number.ensures
