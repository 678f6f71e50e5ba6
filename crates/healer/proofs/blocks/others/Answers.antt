use Rattle.ids.specs.declared.party.ReplicaId.{ReplicaId}
use Rattle.std.proofs.Common.{Vec, Global, ℕ, arith, true, false, not, ◌==◌, ap, sym, ◌∙◌}
use Rattle.healer.proofs.Courses.{nothing-behind}
use Rattle.healer.proofs.Newcomers.{passing-more, passing-all}
use Rattle.healer.proofs.blocks.others.Goals as goal
use Rattle.healer.proofs.blocks.others.Goals.{then-is_other+in_ok-push, else-is_other}

pub loop-replica-init : goal.loop-replica-init
loop-replica-init c = c.new-found.ensures.items

pub loop-replica-preserved : goal.loop-replica-preserved
loop-replica-preserved c =
    let is = sym c.is_other.ensures in
    elim c.if-is_other.branch [
      | then-is_other+in_ok-push v ↦
          ap (λ (y : Vec ReplicaId Global). y.items) v.found-is
          ∙ (v.in_ok-push.ensures.items
          ∙ passing-more (λ (r : ℕ). not (r == c.args.leader)) c.args.correct.now c.loop-replica.replica-index
          c.replica-item.result c.replica-item.result true c.loop-replica.found.items
          (omega (arith, c.loop-replica-test.true)) c.replica-item.is (is ∙ v.if-is_other.true) c.loop-replica.invariant)
      | else-is_other v ↦
          ap (λ (y : Vec ReplicaId Global). y.items) v.found-is
          ∙ (sym (nothing-behind c.loop-replica.found.items)
          ∙ passing-more (λ (r : ℕ). not (r == c.args.leader)) c.args.correct.now c.loop-replica.replica-index
          c.replica-item.result c.replica-item.result false c.loop-replica.found.items
          (omega (arith, c.loop-replica-test.true)) c.replica-item.is (is ∙ v.if-is_other.false) c.loop-replica.invariant)
    ]

pub returns : goal.returns
returns c =
    passing-all (λ (r : ℕ). not (r == c.args.leader)) c.args.correct.now c.loop-replica.replica-index
    c.loop-replica.found.items (omega (arith, c.loop-replica-test.false)) c.loop-replica.invariant
