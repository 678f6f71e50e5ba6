-- The lemma of this name.
use Rattle.recovery.proofs.Fetched.{blocks-fetched}
use Rattle.recovery.proofs.missing_blocks_are_fetched.Goals as goal

pub returns : goal.returns
returns c = blocks-fetched
