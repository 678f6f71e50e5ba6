use Rattle.world_schedule.proofs.Sourced.{bytes-on}
use Rattle.world_schedule.proofs.sources.frames_of.Goals as goal

pub loop-source-preserved : goal.loop-source-preserved
loop-source-preserved c =
    rw c.in_ok-push.ensures.items
    (bytes-on c.args.sent.now c.args.sources.now c.loop-source.source-index c.source-item.result
    c.source-item.result c.loop-source.frames.items c.bytes_of.result c.loop-source-test.true c.source-item.is
    c.loop-source.invariant c.bytes_of.ensures)
