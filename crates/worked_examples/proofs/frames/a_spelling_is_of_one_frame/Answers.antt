-- `spelling_injective` and `old_spelling_injective` are the laws.
use Rattle.definitions.proofs.Spellings.{spelling_injective, old_spelling_injective}
use Rattle.worked_examples.proofs.frames.a_spelling_is_of_one_frame.Goals as goal

pub returns-clause-two : goal.returns-clause-two
returns-clause-two c sizes f g are hf hg e = spelling_injective sizes are f g hf hg e

pub returns-clause-one : goal.returns-clause-one
returns-clause-one c sizes f g are hf hg e = old_spelling_injective sizes are f g hf hg e
