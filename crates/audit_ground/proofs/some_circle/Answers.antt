-- The lemma of this name.
use Rattle.audit_ground.proofs.Circle.{some-circle}
use Rattle.audit_ground.proofs.some_circle.Goals as goal

pub returns : goal.returns
returns c = some-circle
