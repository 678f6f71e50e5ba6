-- The lemma of this name.
use Rattle.recovery.proofs.Copies.{copies-taken}
use Rattle.recovery.proofs.copies_are_taken.Goals as goal

pub returns : goal.returns
returns c = copies-taken
