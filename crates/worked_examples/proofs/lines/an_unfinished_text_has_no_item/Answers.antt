-- The law of the definitions.
use Rattle.definitions.proofs.ItemLaws.{IsUnfinished-no_item}
use Rattle.worked_examples.proofs.lines.an_unfinished_text_has_no_item.Goals as goal

pub returns : goal.returns
returns c = IsUnfinished-no_item
