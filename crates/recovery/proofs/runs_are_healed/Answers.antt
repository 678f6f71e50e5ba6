-- The lemma of this name.
use Rattle.recovery.proofs.Forging.{runs-are-healed}
use Rattle.recovery.proofs.runs_are_healed.Goals as goal

pub returns : goal.returns
returns c = runs-are-healed
