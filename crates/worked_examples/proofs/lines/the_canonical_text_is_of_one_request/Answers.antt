-- The law of the definitions.
use Rattle.definitions.proofs.RequestTexts.{canonical-injective}
use Rattle.worked_examples.proofs.lines.the_canonical_text_is_of_one_request.Goals as goal

pub returns : goal.returns
returns c = canonical-injective
