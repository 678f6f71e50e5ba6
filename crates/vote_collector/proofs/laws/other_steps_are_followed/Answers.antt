use Rattle.vote_collector.proofs.Steps.{followed-else}
use Rattle.vote_collector.proofs.laws.other_steps_are_followed.Goals as goal

pub returns : goal.returns
returns c = followed-else
