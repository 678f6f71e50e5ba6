use Rattle.vote_collector.proofs.Steps.{none-low}
use Rattle.vote_collector.proofs.laws.none_are_low.Goals as goal

pub returns : goal.returns
returns c = none-low
