-- The lemma of this name.
use Rattle.recovery.proofs.Executed.{requests-executed}
use Rattle.recovery.proofs.requests_are_executed.Goals as goal

pub returns : goal.returns
returns c = requests-executed
