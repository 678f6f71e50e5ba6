-- The lemma of this name.
use Rattle.agreement.proofs.Careful.{none-justifies-below}
use Rattle.agreement.proofs.none_justifies_below.Goals as goal

pub returns : goal.returns
returns c = none-justifies-below
