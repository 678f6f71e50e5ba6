-- The lemma of this name.
use Rattle.local_runs.proofs.Alone.{processes-linear}
use Rattle.local_runs.proofs.processes_are_linear.Goals as goal

pub returns : goal.returns
returns c = processes-linear
