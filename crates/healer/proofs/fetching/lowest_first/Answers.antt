use Rattle.std.proofs.Common.{refl, arith, ◌+◌, ◌∙◌}
use Rattle.recovery.specs.Correct.{chronicle_of}
use Rattle.healer.proofs.Lowest.{digests-none, digests-next, digests-all}
use Rattle.healer.proofs.Reached.{below-is}
use Rattle.healer.proofs.fetching.lowest_first.Goals as goal

pub loop-below-init : goal.loop-below-init
loop-below-init c = λ hs w t l x h. c.new-digests.ensures.items ∙ digests-none x 0 refl

pub loop-below-preserved : goal.loop-below-preserved
loop-below-preserved c = λ hs w t l x h.
    let v = c.top.view_is in
    let n = h.high in
    c.in_ok-push.ensures.items
    ∙ digests-next x c.loop-below.digests.items c.loop-below.below c.in_ok-digest.digest
    (omega (arith, v, n, c.loop-below-test.true))
    (below-is (chronicle_of w c.args.replica) c.args.block.now c.args.top (c.loop-below.below + 1) x c.in_ok-digest.digest h
    (omega (arith, v, c.loop-below-test.true)) (c.in_ok-digest.ensures hs w t l))
    (c.loop-below.invariant hs w t l x h)

pub returns : goal.returns
returns c = λ hs w t l x h.
    let v = c.top.view_is in
    let n = h.high in
    digests-all x c.loop-below.digests.items c.loop-below.below (omega (arith, v, n, c.loop-below-test.false))
    (c.loop-below.invariant hs w t l x h)
