use Rattle.std.proofs.Common.{not, ap, ◌∙◌}
use Rattle.world_schedule.specs.Settings.{Setting, is_faulty_in}
use Rattle.healer.proofs.Tellings.{at-own, faulty-told}
use Rattle.healer.proofs.healer.Healer.is_correct.Goals as goal

pub returns : goal.returns
returns c = λ hs w t.
    ap not (c.is_faulty.ensures
    ∙ (ap (λ (s : Setting). is_faulty_in s c.from.result) c.world.ensures
    ∙ (faulty-told c.self.inside.running c.from.result hs w (at-own _ _ hs w c.self.view_is t)
    ∙ ap w.is_faulty c.from.ensures)))
