-- The lemma of this name.
use Rattle.linear_law.proofs.Lives.{no-seq-again}
use Rattle.linear_law.proofs.no_seq_is_given_again.Goals as goal

pub returns : goal.returns
returns c = no-seq-again
