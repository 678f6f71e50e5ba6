-- The law of the definitions.
use Rattle.definitions.proofs.RequestTexts.{length-canonical}
use Rattle.worked_examples.proofs.lines.a_canonical_text_has_at_most_4393_bytes.Goals as goal

pub returns : goal.returns
returns c = length-canonical
