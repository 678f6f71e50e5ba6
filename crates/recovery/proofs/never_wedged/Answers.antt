-- The lemma of this name.
use Rattle.recovery.proofs.Wedged.{never-wedged}
use Rattle.recovery.proofs.never_wedged.Goals as goal

pub returns : goal.returns
returns c = never-wedged
