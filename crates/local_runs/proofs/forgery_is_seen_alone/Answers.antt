-- The lemma of this name.
use Rattle.local_runs.proofs.Forged.{forgery-seen}
use Rattle.local_runs.proofs.forgery_is_seen_alone.Goals as goal

pub returns : goal.returns
returns c = forgery-seen
