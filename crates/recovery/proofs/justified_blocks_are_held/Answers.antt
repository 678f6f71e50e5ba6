-- The lemma of this name.
use Rattle.recovery.proofs.Grounds.{justified-held}
use Rattle.recovery.proofs.justified_blocks_are_held.Goals as goal

pub returns : goal.returns
returns c = justified-held
