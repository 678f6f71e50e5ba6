use Rattle.healer.proofs.Locks.{locked-begins, locked-further, locked-whole}
use Rattle.healer.proofs.leading.highest_from.Goals as goal

pub loop-behind-init : goal.loop-behind-init
loop-behind-init c = λ hs w t x. locked-begins w c.args.replicas.now c.args.last c.requires

pub loop-behind-preserved : goal.loop-behind-preserved
loop-behind-preserved c = λ hs w t x.
    locked-further w c.args.replicas.now c.loop-behind.behind c.index-replicas-replicas.result c.loop-behind.best
    c.higher_locked-best.result x c.loop-behind.auto.behind c.loop-behind-test.true c.index-replicas-replicas.is
    (c.loop-behind.invariant hs w t x) (λ y. c.higher_locked-best.ensures hs w t y)

pub returns : goal.returns
returns c = λ hs w t x.
    locked-whole w c.args.replicas.now c.loop-behind.behind c.loop-behind.best c.loop-behind-test.false
    (c.loop-behind.invariant hs w t x)
