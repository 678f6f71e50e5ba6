-- The lemma of this name.
use Rattle.worked_examples.proofs.SmallRun.{premises}
use Rattle.worked_examples.proofs.runs.the_premises_of_runs_can_be_met.Goals as goal

pub returns : goal.returns
returns c = premises
