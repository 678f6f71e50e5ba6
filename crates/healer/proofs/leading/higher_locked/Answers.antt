use Rattle.std.proofs.Common.{◌∙◌}
use Rattle.healer.proofs.Locks.{higher-other, higher-first}
use Rattle.healer.proofs.leading.higher_locked.Goals as goal

pub returns-then-lock_height : goal.returns-then-lock_height
returns-then-lock_height c = λ hs w t x.
    higher-other w c.args.first c.args.other c.lock_height-3.inside.0 c.lock_height-4.inside.0
    (c.lock_height-3.view_is ∙ c.lock_height.ensures hs w t x.0)
    (c.lock_height-4.view_is ∙ c.lock_height-2.ensures hs w t x.1) c.if-lock_height.true

pub returns-else-lock_height : goal.returns-else-lock_height
returns-else-lock_height c = λ hs w t x.
    higher-first w c.args.first c.args.other c.lock_height-3.inside.0 c.lock_height-4.inside.0
    (c.lock_height-3.view_is ∙ c.lock_height.ensures hs w t x.0)
    (c.lock_height-4.view_is ∙ c.lock_height-2.ensures hs w t x.1) c.if-lock_height.false
