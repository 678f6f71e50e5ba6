use Rattle.doorkeeper.proofs.Crowds.{none-crowded-out}
use Rattle.doorkeeper.proofs.laws.none_crowded_out.Goals as goal

pub returns : goal.returns
returns c = none-crowded-out
