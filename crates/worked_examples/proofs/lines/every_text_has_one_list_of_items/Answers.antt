-- There is one, and no other.
use Rattle.definitions.proofs.ItemLaws.{items_of, AreItems-unique}
use Rattle.worked_examples.proofs.lines.every_text_has_one_list_of_items.Goals as goal

pub returns : goal.returns
returns c text = (items_of text, λ xs ys a b. AreItems-unique xs ys text a b)
