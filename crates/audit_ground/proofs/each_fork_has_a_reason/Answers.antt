-- The lemma of this name.
use Rattle.audit_ground.proofs.Verdicts.{each-fork_has_a_reason}
use Rattle.audit_ground.proofs.each_fork_has_a_reason.Goals as goal

pub returns : goal.returns
returns c = each-fork_has_a_reason
