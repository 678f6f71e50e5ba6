-- The lemma of this name.
use Rattle.recovery.proofs.Beginnings.{leads-begin}
use Rattle.recovery.proofs.leads_begin.Goals as goal

pub returns : goal.returns
returns c = leads-begin
