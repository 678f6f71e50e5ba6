-- The law of the definitions.
use Rattle.definitions.proofs.ItemLaws.{IsItemAt-append}
use Rattle.worked_examples.proofs.lines.an_item_stays_when_bytes_are_appended.Goals as goal

pub returns : goal.returns
returns c = IsItemAt-append
