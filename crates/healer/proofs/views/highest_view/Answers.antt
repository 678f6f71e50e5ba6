use Rattle.std.proofs.Common.{sym, arith, ◌∙◌}
use Rattle.healer.proofs.Members.{item-is-replica}
use Rattle.healer.proofs.Waits.{view-none, view-next, view-all}
use Rattle.healer.proofs.views.highest_view.Goals as goal

pub loop-replica-init : goal.loop-replica-init
loop-replica-init c = λ hs w t x. sym (view-none w)

pub loop-replica-preserved : goal.loop-replica-preserved
loop-replica-preserved c = λ hs w t x.
    c.max-highest.ensures ∙ view-next w c.args.replicas.now c.loop-replica.replica-index c.replica-item.result
    c.replica-item.result c.loop-replica.highest c.max.inside.0 (omega (arith, c.loop-replica-test.true))
    c.replica-item.is (c.loop-replica.invariant hs w t x) (c.max.view_is ∙ c.view_of.ensures hs w t
    (item-is-replica c.args.replicas.now c.loop-replica.replica-index c.replica-item.result c.replica-item.result w
    (omega (arith, c.loop-replica-test.true)) c.replica-item.is x))

pub returns : goal.returns
returns c = λ hs w t x.
    view-all w c.args.replicas.now c.loop-replica.replica-index c.loop-replica.highest
    (omega (arith, c.loop-replica-test.false)) (c.loop-replica.invariant hs w t x)
