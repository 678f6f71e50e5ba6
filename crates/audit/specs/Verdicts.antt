-- What an audit's answers are for the definitions.
use Rattle.definitions.specs.Audit as audit
use Rattle.definitions.specs.WindowAudit as windows
use Rattle.audit.specs.declared.verdict.CorePlace.{CorePlace}
use Rattle.audit.specs.declared.verdict.CorePlace.TheVariants.{Genesis, Step}
use Rattle.audit.specs.declared.verdict.Reason.{Reason}
use Rattle.audit.specs.declared.verdict.Reason.TheVariants.{Vote, Take, Collision}
use Rattle.audit.specs.declared.verdict.Verdict.{Verdict}
use Rattle.audit.specs.declared.verdict.Verdict.TheVariants.{Agree, Fork}
use Rattle.audit.specs.declared.verdict.WindowVerdict.{WindowVerdict}
use Rattle.audit.specs.declared.verdict.WindowVerdict.TheVariants as shown

abbrev pub place_of : CorePlace → audit.CorePlace
place_of Genesis = audit.at_genesis
place_of (Step i k) = audit.at_step i k

abbrev pub reason_of : Reason → audit.Reason
reason_of (Vote u v d) = audit.missing_vote u v d
reason_of (Take u v d) = audit.missing_take u v d
reason_of (Collision p q) = audit.collision (place_of p) (place_of q)

abbrev pub verdict_of : Verdict → audit.Verdict
verdict_of Agree = audit.agree
verdict_of (Fork r) = audit.fork (reason_of r)

abbrev pub window_verdict_of : WindowVerdict → windows.WindowVerdict
window_verdict_of shown.Agree = windows.agree
window_verdict_of (shown.Fork a b) = windows.fork a b
window_verdict_of (shown.Unmet a b) = windows.unmet a b
