use Rattle.clock.proofs.Lagging.{is-patient}
use Rattle.clock.proofs.laws.proposals_may_wait.Goals as goal

pub returns : goal.returns
returns c = is-patient
