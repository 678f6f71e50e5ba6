use Rattle.pacemaker.proofs.Reached.{paced-still}
use Rattle.pacemaker.proofs.laws.other_steps_keep_the_pace.Goals as goal

pub returns : goal.returns
returns c = paced-still
