-- The lemma of this name.
use Rattle.audit_ground.proofs.Ordered.{orderly-chronicles_are_backed}
use Rattle.audit_ground.proofs.orderly_chronicles_are_backed.Goals as goal

pub returns : goal.returns
returns c = orderly-chronicles_are_backed
