-- The law of the definitions.
use Rattle.definitions.proofs.Lines.{IsLineOf-unique}
use Rattle.worked_examples.proofs.lines.a_line_says_one_thing.Goals as goal

pub returns : goal.returns
returns c = IsLineOf-unique
