-- The lemma of this name.
use Rattle.recovery.proofs.Locks.{highest-locks-safe}
use Rattle.recovery.proofs.highest_locks_are_safe.Goals as goal

pub returns : goal.returns
returns c = highest-locks-safe
