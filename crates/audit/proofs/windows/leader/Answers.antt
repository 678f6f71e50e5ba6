use Rattle.std.proofs.Common.{◌<◌, ◌+◌, sym, subst, arith, take_all, List, take, rules}
use Rattle.std.specs.Borrow.{Bor}
use Rattle.std.proofs.lemmas.Map.Keys.{le_from_not_gt}
use Rattle.replica.specs.Steps.{Held}
use Rattle.audit.specs.Judged.{member_of, judged}
use Rattle.audit.proofs.Leading.{IsLeading, leading-first, leading-higher, leading-other, leads-from}
use Rattle.audit.proofs.windows.leader.Goals.{then-gt, else-gt}
use Rattle.audit.proofs.windows.leader.Goals as goal

pub loop-replica-init : goal.loop-replica-init
loop-replica-init c =
    leading-first c.args.replicas.now c.index-replicas-0.result c.requires c.index-replicas-0.is

pub loop-replica-preserved : goal.loop-replica-preserved
loop-replica-preserved c =
    let rs = c.args.replicas.now in
    let i = c.loop-replica.replica-index in
    let r = c.replica-item.result in
    let up = c.height.ensures in
    let down = c.height-in-loop-replica.ensures in
    elim c.if-gt.branch [
      | then-gt w ↦
          let more : c.height-in-loop-replica.result < c.height.result = search (rules, w.if-gt.ensures) in
          subst (λ (x : Bor Held). IsLeading (judged rs) (judged (take (i + 1) rs)) (member_of x.now))
          (sym w.leader-is)
          (leading-higher rs i r (member_of c.loop-replica.leader.now) c.loop-replica-test.true
          c.replica-item.is (omega (arith, more, up, down)) c.loop-replica.invariant)
      | else-gt w ↦
          let low = le_from_not_gt c.height.result c.height-in-loop-replica.result (sym w.if-gt.ensures) in
          subst (λ (x : Bor Held). IsLeading (judged rs) (judged (take (i + 1) rs)) (member_of x.now))
          (sym w.leader-is)
          (leading-other rs i r (member_of c.loop-replica.leader.now) c.loop-replica-test.true
          c.replica-item.is (omega (arith, low, up, down)) c.loop-replica.invariant)
    ]

pub returns : goal.returns
returns c =
    let rs = c.args.replicas.now in
    leads-from (judged rs) (member_of c.loop-replica.leader.now)
    (subst (λ (xs : List (Bor Held)). IsLeading (judged rs) (judged xs) (member_of c.loop-replica.leader.now))
    (take_all c.loop-replica.replica-index rs (omega (arith, c.loop-replica-test.false)))
    c.loop-replica.invariant)
