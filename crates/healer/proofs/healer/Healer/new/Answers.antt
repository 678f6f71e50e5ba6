use Rattle.std.proofs.Common.{arith, List, subst}
use Rattle.std.proofs.lemmas.List.{take_all}
use Rattle.world_schedule.specs.declared.event.Event.{Event}
use Rattle.world_schedule.specs.Progress.{HasRun}
use Rattle.world_schedule.proofs.Runs.{first-run, goes-further}
use Rattle.healer.proofs.healer.Healer.new.Goals as goal

pub loop-event-init : goal.loop-event-init
loop-event-init c = first-run _ _ c.in_ok-running.ensures.setting c.in_ok-running.ensures.made

pub loop-event-preserved : goal.loop-event-preserved
loop-event-preserved c =
    let r = c.loop-event.invariant in
    goes-further _ _ c.loop-event.event-index c.event-item.result c.event-item.result _ _ (omega arith)
    c.event-item.is r c.happen.ensures.same (c.in_ok-happen.ensures.happened r.happenings r.world r.stands)

pub returns-clause-ran : goal.returns-clause-ran
returns-clause-ran c =
    subst (λ (es : List Event). HasRun c.args.world.now es c.loop-event.running)
    (take_all c.loop-event.event-index c.args.schedule.now (omega (arith, c.loop-event-test.false))) c.loop-event.invariant
