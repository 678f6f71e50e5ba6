-- The lemma of this name.
use Rattle.audit_ground.proofs.Verdicts.{each-audit_answers}
use Rattle.audit_ground.proofs.each_audit_answers.Goals as goal

pub returns : goal.returns
returns c = each-audit_answers
