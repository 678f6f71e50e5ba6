use Rattle.catching_up.proofs.Tellers.{a-correct-one-told}
use Rattle.catching_up.proofs.laws.a_correct_one_told.Goals as goal

pub returns : goal.returns
returns c = a-correct-one-told
