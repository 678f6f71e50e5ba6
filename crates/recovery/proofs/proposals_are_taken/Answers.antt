-- The lemma of this name.
use Rattle.recovery.proofs.Proposals.{proposals-taken}
use Rattle.recovery.proofs.proposals_are_taken.Goals as goal

pub returns : goal.returns
returns c = proposals-taken
