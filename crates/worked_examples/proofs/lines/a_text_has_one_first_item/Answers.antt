-- The law of the definitions.
use Rattle.definitions.proofs.ItemLaws.{IsItemAt-unique}
use Rattle.worked_examples.proofs.lines.a_text_has_one_first_item.Goals as goal

pub returns : goal.returns
returns c = IsItemAt-unique
