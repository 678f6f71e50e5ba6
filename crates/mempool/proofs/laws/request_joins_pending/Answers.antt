use Rattle.mempool.proofs.Following.{follows_request}
use Rattle.mempool.proofs.laws.request_joins_pending.Goals as goal

pub returns : goal.returns
returns c = follows_request
