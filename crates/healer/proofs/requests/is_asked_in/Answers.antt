use Rattle.std.proofs.Common.{ap, ◌∙◌}
use Rattle.world_schedule.specs.Outcomes.{Shown}
use Rattle.frames_view.specs.Views.{frame_of}
use Rattle.healer.specs.Asked.{is_asked}
use Rattle.healer.proofs.Asked.{read-frame, read-none}
use Rattle.healer.proofs.requests.is_asked_in.Goals as goal

pub returns-in-Ok : goal.returns-in-Ok
returns-in-Ok c = λ s e told.
    c.is_asked.ensures
    ∙ ap (is_asked c.args.client c.args.session.now.session)
    (read-frame c.args.config.now c.deref.result.now s (frame_of c.in-Ok.frame)
    (c.deref.ensures.value ∙ ap (λ (x : Shown). x.1.2) e) told c.in-Ok.ensures.value)

pub returns-in-Err : goal.returns-in-Err
returns-in-Err c = λ s e told.
    absurd (read-none c.args.config.now c.deref.result.now s (c.deref.ensures.value ∙ ap (λ (x : Shown). x.1.2) e) told
    c.in-Err.ensures.value)
