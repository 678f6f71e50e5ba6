use Rattle.mempool.proofs.Following.{picked}
use Rattle.mempool.proofs.laws.pick_is_for_child.Goals as goal

pub returns : goal.returns
returns c = picked
