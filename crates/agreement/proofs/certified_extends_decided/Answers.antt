-- The lemma of this name.
use Rattle.agreement.proofs.Agreement.{certified-extends-decided}
use Rattle.agreement.proofs.certified_extends_decided.Goals as goal

pub returns : goal.returns
returns c = certified-extends-decided
