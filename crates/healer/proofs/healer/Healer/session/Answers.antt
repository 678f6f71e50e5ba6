use Rattle.std.proofs.Common.{ap, sym, ◌∙◌}
use Rattle.world_schedule.specs.Settings.{Setting, is_faulty_in}
use Rattle.healer.proofs.Tellings.{at-own, faulty-told, session-told, no-session-told}
use Rattle.healer.proofs.healer.Healer.session.Goals as goal

pub returns-then-is_faulty : goal.returns-then-is_faulty
returns-then-is_faulty c = λ hs w t l.
    no-session-told w c.args.client
    (sym (c.is_faulty.ensures
    ∙ (ap (λ (s : Setting). is_faulty_in s c.from.result) c.world.ensures
    ∙ (faulty-told c.self.inside.running c.from.result hs w (at-own _ _ hs w c.self.view_is t)
    ∙ ap w.is_faulty c.from.ensures)))
    ∙ c.if-is_faulty.true)

pub returns : goal.returns
returns c = λ hs w t l.
    session-told c.self.inside.running c.args.client c.session.result hs w (at-own _ _ hs w c.self.view_is t) l
    (sym (c.is_faulty.ensures
    ∙ (ap (λ (s : Setting). is_faulty_in s c.from.result) c.world.ensures
    ∙ (faulty-told c.self.inside.running c.from.result hs w (at-own _ _ hs w c.self.view_is t)
    ∙ ap w.is_faulty c.from.ensures)))
    ∙ c.if-is_faulty.false) c.session.ensures
