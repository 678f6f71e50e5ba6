use Rattle.std.proofs.Common.{◌∙◌}
use Rattle.healer.proofs.Tellings.{leaf-is}
use Rattle.healer.proofs.blocks.leaf_height.Goals as goal

pub returns-in-Some : goal.returns-in-Some
returns-in-Some c = λ hs w t l.
    c.leaf_height.ensures ∙ leaf-is w c.args.replica c.in-Some.replica.now (c.in-Some.ensures hs w t l)

pub returns-in-None : goal.returns-in-None
returns-in-None c = λ hs w t l. absurd (c.in-None.ensures hs w t l)
