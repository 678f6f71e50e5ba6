-- The lemma of this name.
use Rattle.recovery.proofs.Views.{timeouts-bring-together}
use Rattle.recovery.proofs.timeouts_bring_together.Goals as goal

pub returns : goal.returns
returns c = timeouts-bring-together
