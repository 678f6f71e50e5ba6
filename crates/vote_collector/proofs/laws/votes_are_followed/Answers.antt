use Rattle.vote_collector.proofs.Steps.{followed-vote}
use Rattle.vote_collector.proofs.laws.votes_are_followed.Goals as goal

pub returns : goal.returns
returns c = followed-vote
