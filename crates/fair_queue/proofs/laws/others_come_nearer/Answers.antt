use Rattle.fair_queue.proofs.Turning.{come-nearer}
use Rattle.fair_queue.proofs.laws.others_come_nearer.Goals as goal

pub returns : goal.returns
returns g c = come-nearer _
