use Rattle.clock.proofs.Lagging.{is-given}
use Rattle.clock.proofs.laws.timeouts_are_given.Goals as goal

pub returns : goal.returns
returns c = is-given
