-- The lemma of this name.
use Rattle.recovery.proofs.Brought.{branches-brought}
use Rattle.recovery.proofs.branches_are_brought.Goals as goal

pub returns : goal.returns
returns c = branches-brought
