use Rattle.mempool.proofs.Following.{left_by}
use Rattle.mempool.proofs.laws.executed_leave_pending.Goals as goal

pub returns : goal.returns
returns c = left_by
