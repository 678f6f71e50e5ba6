-- The lemma of this name.
use Rattle.recovery.proofs.Highs.{highest-certified}
use Rattle.recovery.proofs.highest_are_certified.Goals as goal

pub returns : goal.returns
returns c = highest-certified
