-- The lemma of this name.
use Rattle.recovery.proofs.Rounded.{rounds-decide}
use Rattle.recovery.proofs.rounds_decide.Goals as goal

pub returns : goal.returns
returns c = rounds-decide
