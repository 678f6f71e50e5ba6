use Rattle.letters.proofs.OneText.{of_one}
use Rattle.letters.proofs.laws.one_text_is_of_one_letter.Goals as goal

pub returns : goal.returns
returns c = of_one
