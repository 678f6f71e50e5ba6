use Rattle.std.proofs.Common.{◌∙◌, ap, Err}
use Rattle.std.proofs.lemmas.Result.{err_from_is_err_and}
use Rattle.simulator.specs.Lines.{IsEvent, event_text}
use Rattle.simulator.proofs.Cuts.{plain_event}
use Rattle.simulator.proofs.Readings.{refused}
use Rattle.simulator.proofs.schedule.take_event.Goals as goal

pub returns-in_default-clause-bad : goal.returns-in_default-clause-bad
returns-in_default-clause-bad c =
    λ bad long.
    (long, λ h rest fits begins. c.in_default.ensures.first (event_text h) rest (plain_event h fits) begins)

pub returns-in_err-event_of-clause-bad : goal.returns-in_err-event_of-clause-bad
returns-in_err-event_of-clause-bad c =
    let p = err_from_is_err_and c.from_residual.result c.from_residual.ensures.1 in
    λ bad long. (
      long,
      λ h rest fits begins.
          let same = c.in-Some.ensures.first (event_text h) rest (plain_event h fits) begins in
          refused event_text IsEvent c.in-Some.line.0.now c.from_residual.result c.in_err-event_of.field-0.0
          (p.1 ∙ ap Err p.2) bad c.in_err-event_of.ensures h fits same.0,
    )
