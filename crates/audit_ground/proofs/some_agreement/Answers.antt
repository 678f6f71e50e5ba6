-- The lemma of this name.
use Rattle.audit_ground.proofs.Agree.{some-agreement}
use Rattle.audit_ground.proofs.some_agreement.Goals as goal

pub returns : goal.returns
returns c = some-agreement
