use Rattle.std.proofs.Common.{length, sym, ap, ◌∙◌, Err}
use Rattle.std.proofs.lemmas.List.Elements.{All-push}
use Rattle.simulator.specs.Lines.{IsEvent}
use Rattle.simulator.proofs.MoreLines.{one_more_line}
use Rattle.simulator.proofs.Readings.{not_a_line, some_left}
use Rattle.simulator.proofs.schedule.parse.Goals as goal

pub loop-rest-preserved : goal.loop-rest-preserved
loop-rest-preserved c =
    let read = c.in-Ok-take_event.ensures.ok in
    rw c.in_ok-push.ensures.items record {
      heading = c.loop-rest.invariant.heading;
      events = All-push IsEvent c.loop-rest.events.items c.in-Ok-take_event.taken.0
          c.loop-rest.invariant.events read.0;
      begins =
          one_more_line c.args.text.now c.loop-rest.rest.now c.in-Ok-take_event.taken.1.now c.in-Ok.taken.0
          c.loop-rest.events.items c.in-Ok-take_event.taken.0 c.loop-rest.invariant.begins read.1;
    }

pub returns-in-Err-take_event-clause-bad : goal.returns-in-Err-take_event-clause-bad
returns-in-Err-take_event-clause-bad c =
    let a = c.is_empty.ensures in
    let b = c.loop-rest-test in
    let more = some_left (length c.loop-rest.rest.now) (sym c.is_empty.ensures ∙ c.loop-rest-test.true) in
    rw (c.fault_of-in-Err-take_event.ensures, c.len.ensures, c.loop-rest.events.ok.0)
    (not_a_line c.args.text.now c.loop-rest.rest.now c.in-Ok.taken.0 c.loop-rest.events.items
    c.in-Err-take_event.why c.loop-rest.invariant.heading
    c.loop-rest.invariant.events c.loop-rest.invariant.begins more
    (λ bad. c.in-Err-take_event.ensures.bad (ap Err bad)))
