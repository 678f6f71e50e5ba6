-- The lemma of this name.
use Rattle.agreement.proofs.Agreement.{no-conflict}
use Rattle.agreement.proofs.no_conflict.Goals as goal

pub returns : goal.returns
returns c = no-conflict
