use Rattle.catching_up.proofs.Raising.{one-more}
use Rattle.catching_up.proofs.told.foremost.Goals as goal

pub loop-height-preserved : goal.loop-height-preserved
loop-height-preserved c =
    one-more c.args.faults c.args.told.now c.loop-height.height-index c.loop-height.foremost c.height-item.result
    c.raised-foremost.result c.loop-height.invariant c.height-item.is c.loop-height-test.true c.raised-foremost.ensures
