-- The lemma of this name.
use Rattle.recovery.proofs.Decided.{three-decide}
use Rattle.recovery.proofs.three_more_decide.Goals as goal

pub returns : goal.returns
returns c = three-decide
