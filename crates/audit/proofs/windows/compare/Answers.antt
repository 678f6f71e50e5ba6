use Rattle.std.proofs.Common.{◌+◌, ℕ, sym, subst, arith, take, take_all, List, Option, ◌∙◌}
use Rattle.std.specs.Borrow.{Bor}
use Rattle.replica.specs.Steps.{Held}
use Rattle.audit.specs.Judged.{member_of, judged}
use Rattle.audit.proofs.ByNumber.{member-among}
use Rattle.audit.proofs.Leading.{AreCompared, compared-none, compared-met, compared-unmet}
use Rattle.audit.proofs.windows.compare.Goals.{in-Same, in-Nothing}
use Rattle.audit.proofs.windows.compare.Goals as goal

pub loop-replica-init : goal.loop-replica-init
loop-replica-init c = compared-none c.args.replicas.now (member_of c.args.leader.now)

pub loop-replica-preserved : goal.loop-replica-preserved
loop-replica-preserved c =
    let rs = c.args.replicas.now in
    let i = c.loop-replica.replica-index in
    let r = c.replica-item.result in
    let m = member_of c.args.leader.now in
    elim c.match-sight.branch [
      | in-Same w ↦
          subst (λ (o : Option ℕ). AreCompared (judged rs) (judged (take (i + 1) rs)) m o) (sym w.unmet-is)
          (compared-met rs i r m c.loop-replica.unmet c.loop-replica-test.true c.replica-item.is
          w.in-Same.ensures c.loop-replica.invariant)
      | in-Nothing w ↦
          subst (λ (o : Option ℕ). AreCompared (judged rs) (judged (take (i + 1) rs)) m o)
          (sym (w.unmet-is ∙ w.or-unmet.ensures))
          (compared-unmet rs i r m c.loop-replica.unmet c.number-lower.result c.loop-replica-test.true
          c.replica-item.is w.in-Nothing.ensures c.number-lower.ensures c.loop-replica.invariant)
    ]

pub returns-in-Other : goal.returns-in-Other
returns-in-Other c = record {
  lower = member_of c.replica-item.result.now;
  higher = member_of c.args.leader.now;
  judged = member-among c.args.replicas.now c.loop-replica.replica-index c.replica-item.result
      c.loop-replica-test.true c.replica-item.is;
  leads = c.requires;
  lower_number = sym c.number-lower.ensures;
  higher_number = sym c.number-higher.ensures;
  related = c.in-Other.ensures;
}

pub returns-in-Some : goal.returns-in-Some
returns-in-Some c =
    let rs = c.args.replicas.now in
    let m = member_of c.args.leader.now in
    let all = subst (λ (xs : List (Bor Held)). AreCompared (judged rs) (judged xs) m c.loop-replica.unmet)
    (take_all c.loop-replica.replica-index rs (omega (arith, c.loop-replica-test.false)))
    c.loop-replica.invariant in
    let unmet = subst (λ (o : Option ℕ). AreCompared (judged rs) (judged rs) m o) c.in-Some.is all in (
      record {
        lower = unmet.met.0;
        higher = m;
        judged = unmet.met.1;
        leads = c.requires;
        lower_number = unmet.met.2;
        higher_number = sym c.number-higher.ensures;
        related = unmet.met.3;
      },
      all.same,
    )
