use Rattle.std.proofs.Common.{◌++◌, refl, subst}
use Rattle.world_schedule.specs.Settings.{Holds}
use Rattle.world_schedule.specs.Running.{IsRunOf}
use Rattle.healer.specs.Courses.{Course}
use Rattle.healer.proofs.Tellings.{at-own}
use Rattle.healer.proofs.Courses.{ends}
use Rattle.healer.proofs.healer.Healer.finish.Goals as goal

pub returns-clause-ran : goal.returns-clause-ran
returns-clause-ran c =
    subst (λ (x : Course). IsRunOf x.origin.setting (x.origin.schedule ++ c.self.inside.events.items)
    c.in_ok-outcome.outcome) c.self.view_is
    (ends c.self.inside.schedule.now c.self.inside.events.items c.self.inside.running c.in_ok-outcome.outcome
    c.self.invariant (subst Holds c.world.ensures c.holds.ensures) (c.in_ok-outcome.ensures.goes refl)
    c.in_ok-outcome.ensures.told)

pub returns-clause-told : goal.returns-clause-told
returns-clause-told c = λ hs w t. c.in_ok-outcome.ensures.told hs w (at-own _ _ hs w c.self.view_is t)
