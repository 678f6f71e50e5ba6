-- The lemma of this name.
use Rattle.linear_law.proofs.WholeRuns.{chronicles-lawful}
use Rattle.linear_law.proofs.chronicles_are_lawful.Goals as goal

pub returns : goal.returns
returns c = chronicles-lawful
