use Rattle.doorkeeper.proofs.Climbing.{leaders-pass}
use Rattle.doorkeeper.proofs.laws.leaders_pass.Goals as goal

pub returns : goal.returns
returns c = leaders-pass
