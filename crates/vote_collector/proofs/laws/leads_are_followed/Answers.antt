use Rattle.vote_collector.proofs.Steps.{followed-lead}
use Rattle.vote_collector.proofs.laws.leads_are_followed.Goals as goal

pub returns : goal.returns
returns c = followed-lead
