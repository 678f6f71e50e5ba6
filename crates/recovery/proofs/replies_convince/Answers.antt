-- The lemma of this name.
use Rattle.recovery.proofs.Hearing.{replies-convince}
use Rattle.recovery.proofs.replies_convince.Goals as goal

pub returns : goal.returns
returns c = replies-convince
