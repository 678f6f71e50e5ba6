use Rattle.clock.proofs.Lagging.{is-owed}
use Rattle.clock.proofs.laws.commands_are_owed.Goals as goal

pub returns : goal.returns
returns c = is-owed
