-- The fields are plain, and short.
use Rattle.definitions.proofs.Lines.{length-line, line_has_no_end}
use Rattle.worked_examples.proofs.lines.a_well_formed_line_fits.Goals as goal

pub returns : goal.returns
returns c head noreply form may = (length-line head noreply form may, line_has_no_end head noreply form)
