use Rattle.std.proofs.Common.{inr, ap, ◌∙◌, map}
use Rattle.world_schedule.specs.Outcomes.{shown_frame}
use Rattle.world_schedule.proofs.Runs.{was-refused, after-note}
use Rattle.world_schedule.proofs.running.State.happen.Goals as goal

pub returns-in-Err : goal.returns-in-Err
returns-in-Err c = λ w at fit. inr (was-refused _ _ _ _ _ at c.in-Err.ensures)

pub returns-in-Ok : goal.returns-in-Ok
returns-in-Ok c = λ w at fit.
    after-note _ _ _ _ _ _ _ at c.in_default.ensures
    (c.in-Ok.ensures.done w at.parties
    (ap (map shown_frame) c.as_slice-sent.ensures.value ∙ at.told.frames) fit)
    c.note.ensures.frames c.note.ensures.receipts c.note.ensures.answers c.note.ensures.memory
