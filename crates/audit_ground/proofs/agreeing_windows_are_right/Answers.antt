-- The lemma of this name.
use Rattle.audit_ground.proofs.Shown.{agreeing-windows_are_right}
use Rattle.audit_ground.proofs.agreeing_windows_are_right.Goals as goal

pub returns : goal.returns
returns c = agreeing-windows_are_right
