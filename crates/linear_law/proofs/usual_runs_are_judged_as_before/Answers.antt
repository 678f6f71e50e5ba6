-- The lemma of this name.
use Rattle.linear_law.proofs.UsualRuns.{judged-as-before}
use Rattle.linear_law.proofs.usual_runs_are_judged_as_before.Goals as goal

pub returns : goal.returns
returns c = judged-as-before
