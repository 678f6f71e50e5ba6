use Rattle.doorkeeper.proofs.Accounts.{few-of-height}
use Rattle.doorkeeper.proofs.laws.few_of_a_height.Goals as goal

pub returns : goal.returns
returns c = few-of-height
