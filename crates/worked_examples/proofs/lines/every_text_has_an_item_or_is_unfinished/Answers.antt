-- The law of the definitions.
use Rattle.definitions.proofs.ItemLaws.{item_or_unfinished}
use Rattle.worked_examples.proofs.lines.every_text_has_an_item_or_is_unfinished.Goals as goal

pub returns : goal.returns
returns c = item_or_unfinished
