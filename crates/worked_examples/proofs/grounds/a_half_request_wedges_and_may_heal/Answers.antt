-- The lemmas of these names.
use Rattle.worked_examples.proofs.HalfRequest.{one_votes, premises, may_heal_it}
use Rattle.worked_examples.proofs.grounds.a_half_request_wedges_and_may_heal.Goals as goal

pub returns : goal.returns
returns c = record { votes = one_votes; premises = premises; may = may_heal_it }
