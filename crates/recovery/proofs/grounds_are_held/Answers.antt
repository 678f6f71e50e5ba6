-- The lemma of this name.
use Rattle.recovery.proofs.Grounds.{grounds-held}
use Rattle.recovery.proofs.grounds_are_held.Goals as goal

pub returns : goal.returns
returns c = grounds-held
