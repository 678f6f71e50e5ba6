-- The lemma of this name.
use Rattle.agreement.proofs.Agreement.{one-extends}
use Rattle.agreement.proofs.one_extends.Goals as goal

pub returns : goal.returns
returns c = one-extends
