-- The lemma of this name.
use Rattle.local_runs.proofs.Alone.{processes-run}
use Rattle.local_runs.proofs.processes_are_a_run.Goals as goal

pub returns : goal.returns
returns c = processes-run
