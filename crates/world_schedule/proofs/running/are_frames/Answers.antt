use Rattle.world_schedule.proofs.Sourced.{reads-on}
use Rattle.world_schedule.proofs.running.are_frames.Goals as goal

pub loop-source-preserved : goal.loop-source-preserved
loop-source-preserved c =
    let l = c.loop-source.invariant in
    let r = reads-on c.args.config.now c.args.sources.now c.loop-source.source-index c.source-item.result
    c.source-item.result l.reads c.is_frame.ensures.0 c.loop-source-test.true c.source-item.is l.all l.read
    c.is_frame.ensures.1 in
    record { reads = r.0; all = r.1; read = r.2 }
