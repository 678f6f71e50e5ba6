-- The lemma of this name.
use Rattle.recovery.proofs.Forging.{healing-forges-nothing}
use Rattle.recovery.proofs.healing_forges_nothing.Goals as goal

pub returns : goal.returns
returns c = healing-forges-nothing
