use Rattle.catching_up.proofs.GoingRound.{each-is-asked}
use Rattle.catching_up.proofs.laws.each_is_asked.Goals as goal

pub returns : goal.returns
returns c = each-is-asked
