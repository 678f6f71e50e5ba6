-- The lemmas of these names.
use Rattle.worked_examples.proofs.LiarRun.{taken_whole, premises}
use Rattle.worked_examples.proofs.runs.the_premises_can_be_met_beside_a_liar.Goals as goal

pub returns : goal.returns
returns c = record { whole = taken_whole; premises = premises }
