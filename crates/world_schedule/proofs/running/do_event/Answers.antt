use Rattle.std.proofs.Common.{sym, ap, subst, ◌∙◌}
use Rattle.ids.specs.Sizes.{Sizes}
use Rattle.definitions.specs.Premises.{IsReadIn}
use Rattle.world_schedule.specs.Settings.{is_faulty_in}
use Rattle.world_schedule.specs.Schedules.{event_of}
use Rattle.world_schedule.proofs.Runs.{faulty-does, correct-if}
use Rattle.world_schedule.proofs.running.do_event.Goals as goal

pub returns-then-is_faulty-clause-done : goal.returns-then-is_faulty-clause-done
returns-then-is_faulty-clause-done c = λ w at told fit.
    faulty-does _ _ _ _ _ _ c.brings_frame-read.ensures.0
    (subst (λ (z : Sizes). IsReadIn z (event_of c.brings_frame-read.ensures.0 c.args.event.now))
    c.config.ensures c.brings_frame-read.ensures.1)
    (ap (is_faulty_in c.args.world.now) (sym c.party.ensures) ∙ sym c.is_faulty.ensures
    ∙ c.if-is_faulty.true) at.setting.faulty_are at c.only.ensures.out c.only.ensures.accepted
    c.only.ensures.answer

pub returns-clause-done : goal.returns-clause-done
returns-clause-done c = correct-if _ _ _ _ _ _ _ _
    (ap (is_faulty_in c.args.world.now) (sym c.party.ensures) ∙ sym c.is_faulty.ensures
    ∙ c.if-is_faulty.false) c.act.ensures.acted
