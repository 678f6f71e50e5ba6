use Rattle.healer.proofs.Firsts.{climb-is}
use Rattle.healer.proofs.Turns.{if-ok-too}
use Rattle.healer.proofs.blocks.to_climb.Goals as goal

pub returns : goal.returns
returns c =
    if-ok-too _ _ c.climb_above.result (λ n e hs w t x.
    climb-is w c.args.correct.now c.args.leader c.highest_voted-voted.result c.leaf_height-leaf.result n x.0
    (c.highest_voted-voted.ensures hs w t x.0) (c.leaf_height-leaf.ensures hs w t x.1) e) c.climb_above.ensures
