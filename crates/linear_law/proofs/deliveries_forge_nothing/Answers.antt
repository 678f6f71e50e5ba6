-- The lemma of this name.
use Rattle.linear_law.proofs.Deliveries.{forge-nothing}
use Rattle.linear_law.proofs.deliveries_forge_nothing.Goals as goal

pub returns : goal.returns
returns c = forge-nothing
