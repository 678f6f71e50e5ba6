-- The lemma of this name.
use Rattle.local_runs.proofs.Bytes.{runs-processes}
use Rattle.local_runs.proofs.runs_are_of_processes.Goals as goal

pub returns : goal.returns
returns c = runs-processes
