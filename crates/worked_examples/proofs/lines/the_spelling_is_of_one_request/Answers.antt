-- The law of the definitions.
use Rattle.definitions.proofs.RequestTexts.{spelling-injective}
use Rattle.worked_examples.proofs.lines.the_spelling_is_of_one_request.Goals as goal

pub returns : goal.returns
returns c = spelling-injective
