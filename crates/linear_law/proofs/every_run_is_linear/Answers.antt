-- The lemma of this name.
use Rattle.linear_law.proofs.WholeRuns.{every-run-linear}
use Rattle.linear_law.proofs.every_run_is_linear.Goals as goal

pub returns : goal.returns
returns c = every-run-linear
