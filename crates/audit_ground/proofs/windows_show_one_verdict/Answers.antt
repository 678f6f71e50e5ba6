-- The lemma of this name.
use Rattle.audit_ground.proofs.Leaders.{windows-show_one_verdict}
use Rattle.audit_ground.proofs.windows_show_one_verdict.Goals as goal

pub returns : goal.returns
returns c = windows-show_one_verdict
