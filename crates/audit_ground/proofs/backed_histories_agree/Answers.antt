-- The lemma of this name.
use Rattle.audit_ground.proofs.Histories.{backed-histories_agree}
use Rattle.audit_ground.proofs.backed_histories_agree.Goals as goal

pub returns : goal.returns
returns c = backed-histories_agree
