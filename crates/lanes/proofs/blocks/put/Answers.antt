use Rattle.std.proofs.Common.{arith}
use Rattle.lanes.proofs.Windows.{IsWindow_put}
use Rattle.lanes.proofs.blocks.put.Goals as goal

pub returns-then-from-to : goal.returns-then-from-to
returns-then-from-to c = λ before long window.
    IsWindow_put c.args.block.now before c.args.piece.now _ c.args.start c.args.at c.max-from.result c.min-to.result (omega arith) long window
    c.max-from.ensures c.min-to.ensures c.if-from-to.true c.copy_from_slice.ensures.after
