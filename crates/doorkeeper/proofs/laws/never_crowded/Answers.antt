use Rattle.doorkeeper.proofs.Accounts.{never-crowded}
use Rattle.doorkeeper.proofs.laws.never_crowded.Goals as goal

pub returns : goal.returns
returns c = never-crowded
