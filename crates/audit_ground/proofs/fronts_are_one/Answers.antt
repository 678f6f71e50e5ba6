-- The lemma of this name.
use Rattle.audit_ground.proofs.Fronts.{fronts-are_one}
use Rattle.audit_ground.proofs.fronts_are_one.Goals as goal

pub returns : goal.returns
returns c = fronts-are_one
