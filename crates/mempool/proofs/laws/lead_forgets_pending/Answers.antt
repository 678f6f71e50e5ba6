use Rattle.mempool.proofs.Following.{pending-led}
use Rattle.mempool.proofs.laws.lead_forgets_pending.Goals as goal

pub returns : goal.returns
returns c = pending-led
