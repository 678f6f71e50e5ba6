use Rattle.std.proofs.Common.{◌≡◌, refl, subst}
use Rattle.world_schedule.specs.Settings.{Holds}
use Rattle.healer.specs.Courses.{Course}
use Rattle.healer.proofs.healer.Healer.holds.Goals as goal

pub returns-clause-own : goal.returns-clause-own
returns-clause-own c = subst (λ (x : Course). x.stand.setting ≡ x.origin.setting) c.self.view_is refl

pub returns-clause-world : goal.returns-clause-world
returns-clause-world c =
    subst (λ (x : Course). Holds x.origin.setting) c.self.view_is (subst Holds c.world.ensures c.holds.ensures)
