-- The lemma of this name.
use Rattle.audit_ground.proofs.Fronts.{moving-finds_the_fronts}
use Rattle.audit_ground.proofs.moving_one_counter_finds_the_fronts.Goals as goal

pub returns : goal.returns
returns c = moving-finds_the_fronts
