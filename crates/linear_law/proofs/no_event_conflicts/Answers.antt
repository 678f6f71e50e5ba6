-- The lemma of this name.
use Rattle.linear_law.proofs.WholeRuns.{none-conflicts}
use Rattle.linear_law.proofs.no_event_conflicts.Goals as goal

pub returns : goal.returns
returns c = none-conflicts
