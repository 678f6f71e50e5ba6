-- The lemma of this name.
use Rattle.linear_law.proofs.Submissions.{no-seq-twice}
use Rattle.linear_law.proofs.no_seq_is_given_twice.Goals as goal

pub returns : goal.returns
returns c = no-seq-twice
