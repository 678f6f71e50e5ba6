use Rattle.asking.proofs.Turns.{come-nearer}
use Rattle.asking.proofs.laws.others_come_nearer.Goals as goal

pub returns : goal.returns
returns c = come-nearer
