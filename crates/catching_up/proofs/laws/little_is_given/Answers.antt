use Rattle.catching_up.proofs.InARow.{little-is-given}
use Rattle.catching_up.proofs.laws.little_is_given.Goals as goal

pub returns : goal.returns
returns c = little-is-given
