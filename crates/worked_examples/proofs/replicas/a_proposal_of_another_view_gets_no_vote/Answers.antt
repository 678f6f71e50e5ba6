-- The lemmas of these names.
use Rattle.worked_examples.proofs.OneReplica.{other_view}
use Rattle.worked_examples.proofs.replicas.a_proposal_of_another_view_gets_no_vote.Goals as goal

pub returns : goal.returns
returns c = other_view
