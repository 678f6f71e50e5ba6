use Rattle.doorkeeper.proofs.Accounts.{few-pass}
use Rattle.doorkeeper.proofs.laws.few_pass.Goals as goal

pub returns : goal.returns
returns c = few-pass
