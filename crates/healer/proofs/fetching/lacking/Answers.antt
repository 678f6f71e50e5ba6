use Rattle.ids.specs.declared.party.ReplicaId.{ReplicaId}
use Rattle.std.proofs.Common.{Vec, Global, ℕ, List, filter, arith, true, false, not, ap, sym, ◌∙◌}
use Rattle.definitions.specs.States.{is_known}
use Rattle.recovery.specs.Correct.{chronicle_of}
use Rattle.healer.proofs.Courses.{nothing-behind}
use Rattle.healer.proofs.Members.{item-is-replica}
use Rattle.healer.proofs.Newcomers.{passing-more, passing-all}
use Rattle.healer.proofs.fetching.lacking.Goals as goal
use Rattle.healer.proofs.fetching.lacking.Goals.{then-lacks+in_ok-push, else-lacks}

pub loop-replica-init : goal.loop-replica-init
loop-replica-init c = λ hs w t x. c.new-found.ensures.items

pub loop-replica-preserved : goal.loop-replica-preserved
loop-replica-preserved c = λ hs w t x.
    let here = item-is-replica c.args.correct.now c.loop-replica.replica-index c.replica-item.result c.replica-item.result w
    (omega (arith, c.loop-replica-test.true)) c.replica-item.is x in
    let is = sym (c.lacks.ensures hs w t here) in
    elim c.if-lacks.branch [
      | then-lacks+in_ok-push v ↦
          ap (λ (y : Vec ReplicaId Global). y.items) v.found-is
          ∙ (v.in_ok-push.ensures.items
          ∙ passing-more (λ (r : ℕ). not (is_known c.args.block.now (chronicle_of w r))) c.args.correct.now c.loop-replica.replica-index
          c.replica-item.result c.replica-item.result true c.loop-replica.found.items
          (omega (arith, c.loop-replica-test.true)) c.replica-item.is (is ∙ v.if-lacks.true) (c.loop-replica.invariant hs w t x))
      | else-lacks v ↦
          ap (λ (y : Vec ReplicaId Global). y.items) v.found-is
          ∙ (sym (nothing-behind c.loop-replica.found.items)
          ∙ passing-more (λ (r : ℕ). not (is_known c.args.block.now (chronicle_of w r))) c.args.correct.now c.loop-replica.replica-index
          c.replica-item.result c.replica-item.result false c.loop-replica.found.items
          (omega (arith, c.loop-replica-test.true)) c.replica-item.is (is ∙ v.if-lacks.false) (c.loop-replica.invariant hs w t x))
    ]

pub returns : goal.returns
returns c = λ hs w t x.
    passing-all (λ (r : ℕ). not (is_known c.args.block.now (chronicle_of w r))) c.args.correct.now c.loop-replica.replica-index
    c.loop-replica.found.items (omega (arith, c.loop-replica-test.false)) (c.loop-replica.invariant hs w t x)
    ∙ ap (λ (rs : List ℕ). filter (λ r. not (is_known c.args.block.now (chronicle_of w r))) rs) x
