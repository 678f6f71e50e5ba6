-- The lemmas of these names.
use Rattle.worked_examples.proofs.OneReplica.{votes_and_locks, waits, executes}
use Rattle.worked_examples.proofs.replicas.the_fourth_proposal_executes_the_first.Goals as goal

pub returns : goal.returns
returns c = record { votes = votes_and_locks; waits = waits; executes = executes }
