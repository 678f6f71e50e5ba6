use Rattle.std.proofs.Common.{arith}
use Rattle.world_schedule.proofs.Runs.{first-run, goes-further, ends-refused, ends-whole}
use Rattle.world_schedule.proofs.running.run.Goals as goal

pub loop-event-init : goal.loop-event-init
loop-event-init c = first-run _ _ c.in_ok-running.ensures.setting c.in_ok-running.ensures.made

pub returns-in-Err-clause-refused : goal.returns-in-Err-clause-refused
returns-in-Err-clause-refused c =
    let r = c.loop-event.invariant in
    ends-refused _ _ c.loop-event.event-index c.event-item.result c.event-item.result _ _ (omega arith)
    c.event-item.is r (c.in-Err.ensures.happened r.happenings r.world r.stands)

pub loop-event-preserved : goal.loop-event-preserved
loop-event-preserved c =
    let r = c.loop-event.invariant in
    goes-further _ _ c.loop-event.event-index c.event-item.result c.event-item.result _ _ (omega arith)
    c.event-item.is r c.happen.ensures.same (c.in_default.ensures.happened r.happenings r.world r.stands)

pub returns-clause-ran : goal.returns-clause-ran
returns-clause-ran c = ends-whole _ _ c.loop-event.event-index _ _ c.holds.ensures (omega arith)
    c.loop-event.invariant c.into_outcome.ensures.told
