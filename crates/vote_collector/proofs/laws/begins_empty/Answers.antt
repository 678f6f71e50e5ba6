use Rattle.vote_collector.proofs.Steps.{begins-empty}
use Rattle.vote_collector.proofs.laws.begins_empty.Goals as goal

pub returns : goal.returns
returns c = begins-empty
