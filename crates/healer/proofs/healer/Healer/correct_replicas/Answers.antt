use Rattle.ids.specs.Sizes.{Sizes, replicas}
use Rattle.ids.specs.declared.party.ReplicaId.{ReplicaId}
use Rattle.std.proofs.Common.{Vec, Global, arith, true, false, ap, sym, subst, ◌∙◌, ◌<◌}
use Rattle.healer.proofs.Courses.{nothing-behind}
use Rattle.healer.proofs.Members.{below-none, below-next, below-whole}
use Rattle.healer.proofs.healer.Healer.correct_replicas.Goals as goal
use Rattle.healer.proofs.healer.Healer.correct_replicas.Goals.{then-is_correct+in_ok-push, else-is_correct}

pub loop-number-init : goal.loop-number-init
loop-number-init c = λ hs w t. c.new-correct.ensures.items ∙ below-none w

pub loop-number-preserved : goal.loop-number-preserved
loop-number-preserved c = λ hs w t.
    let n = c.n-number-end.ensures.count in
    let z = c.config.ensures hs w t in
    let l = c.loop-number-test.true in
    let here : c.loop-number.number < replicas w.sizes =
    subst (λ (s : Sizes). c.loop-number.number < replicas s) z (omega (arith, n, l)) in
    elim c.if-is_correct.branch [
      | then-is_correct+in_ok-push v ↦
          ap (λ (x : Vec ReplicaId Global). x.items) v.correct-is
          ∙ (v.in_ok-push.ensures.items
          ∙ below-next w c.loop-number.number true c.loop-number.correct.items here
          (sym v.if-is_correct.true ∙ c.is_correct.ensures hs w t) (c.loop-number.invariant hs w t))
      | else-is_correct v ↦
          ap (λ (x : Vec ReplicaId Global). x.items) v.correct-is
          ∙ (sym (nothing-behind c.loop-number.correct.items)
          ∙ below-next w c.loop-number.number false c.loop-number.correct.items here
          (sym v.if-is_correct.false ∙ c.is_correct.ensures hs w t) (c.loop-number.invariant hs w t))
    ]

pub returns : goal.returns
returns c = λ hs w t.
    let l = c.loop-number-test.false in
    let e = c.loop-number.auto.number-end in
    below-whole w c.loop-number.number c.n-number-end.result c.loop-number.correct.items
    (c.n-number-end.ensures.count ∙ ap (λ (s : Sizes). replicas s) (c.config.ensures hs w t)) (omega (arith, l, e))
    (c.loop-number.invariant hs w t)
