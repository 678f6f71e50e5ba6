-- The lemma of this name.
use Rattle.linear_law.proofs.WholeRuns.{chronicles-family}
use Rattle.linear_law.proofs.chronicles_are_a_family.Goals as goal

pub returns : goal.returns
returns c = chronicles-family
