-- The lemma of this name.
use Rattle.audit_ground.proofs.Families.{backed-chronicles_are_orderly}
use Rattle.audit_ground.proofs.backed_chronicles_are_orderly.Goals as goal

pub returns : goal.returns
returns c = backed-chronicles_are_orderly
