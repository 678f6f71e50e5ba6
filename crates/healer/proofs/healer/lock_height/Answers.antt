use Rattle.std.proofs.Common.{◌∙◌}
use Rattle.healer.proofs.Tellings.{lock-height-is}
use Rattle.healer.proofs.healer.lock_height.Goals as goal

pub returns-in-Some : goal.returns-in-Some
returns-in-Some c = λ hs w t l.
    c.lock_height.ensures ∙ lock-height-is w c.args.replica c.in-Some.replica.now (c.in-Some.ensures hs w t l)

pub returns-in-None : goal.returns-in-None
returns-in-None c = λ hs w t l. absurd (c.in-None.ensures hs w t l)
