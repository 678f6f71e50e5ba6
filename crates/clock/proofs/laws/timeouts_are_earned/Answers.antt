use Rattle.clock.proofs.Lagging.{is-earned}
use Rattle.clock.proofs.laws.timeouts_are_earned.Goals as goal

pub returns : goal.returns
returns c = is-earned
