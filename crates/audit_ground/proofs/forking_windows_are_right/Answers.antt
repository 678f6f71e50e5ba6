-- The lemma of this name.
use Rattle.audit_ground.proofs.Shown.{forking-windows_are_right}
use Rattle.audit_ground.proofs.forking_windows_are_right.Goals as goal

pub returns : goal.returns
returns c = forking-windows_are_right
