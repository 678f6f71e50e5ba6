use Rattle.std.proofs.Common.{refl}
use Rattle.lanes.proofs.blocks.with_head.Goals as goal

pub returns : goal.returns
returns c = rw c.copy_from_slice.ensures.after refl
