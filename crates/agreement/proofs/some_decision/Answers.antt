-- The lemma of this name.
use Rattle.agreement.proofs.Example.{some-decision}
use Rattle.agreement.proofs.some_decision.Goals as goal

pub returns : goal.returns
returns c = some-decision
