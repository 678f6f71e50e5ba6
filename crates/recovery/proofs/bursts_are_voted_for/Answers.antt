-- The lemma of this name.
use Rattle.recovery.proofs.Bursts.{bursts-voted}
use Rattle.recovery.proofs.bursts_are_voted_for.Goals as goal

pub returns : goal.returns
returns c = bursts-voted
