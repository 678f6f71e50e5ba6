-- The lemma of this name.
use Rattle.recovery.proofs.Views.{leader-comes}
use Rattle.recovery.proofs.a_correct_leader_comes.Goals as goal

pub returns : goal.returns
returns c = leader-comes
