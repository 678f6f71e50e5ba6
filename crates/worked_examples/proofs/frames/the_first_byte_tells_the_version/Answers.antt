-- Kind by kind.
use Rattle.worked_examples.proofs.Versions.{told, short}
use Rattle.worked_examples.proofs.frames.the_first_byte_tells_the_version.Goals as goal

pub returns-clause-told : goal.returns-clause-told
returns-clause-told c = told

pub returns-clause-head : goal.returns-clause-head
returns-clause-head c = short
