-- A fork has a reason, and each audit an answer.
use Rattle.std.proofs.Common.{◌⊎◌, inl, inr}
use Rattle.ids.specs.Sizes.{Sizes}
use Rattle.definitions.specs.Lists.{IsBeginning}
use Rattle.definitions.specs.Replicas.{held_history}
use Rattle.definitions.specs.Audit.{Member, Judged, Reason, Reason.missing_vote, Reason.missing_take}
use Rattle.definitions.specs.Audit.{Reason.collision}
use Rattle.definitions.specs.Audit.{Verdict.agree, Verdict.fork, Holds, HistoriesAgree}
use Rattle.audit_ground.specs.Law.{AreJudged, EachForkHasAReason, EachAuditAnswers}
use Rattle.audit_ground.proofs.Decisions.{OrNot, all-pairs, either-or_not, IsBeginning-or_not}
use Rattle.audit_ground.proofs.Cores.{apart-or_collision}
use Rattle.audit_ground.proofs.Fronts.{fronts-exist, whole-or-unbacked, whole-none_unbacked}
use Rattle.audit_ground.proofs.Histories.{backed-histories_agree}

-- the histories of two members, one a beginning of the other
abbrev TwoAgree : Member → Member → Type 0
TwoAgree a b =
    IsBeginning (held_history a.replica) (held_history b.replica)
    ⊎ IsBeginning (held_history b.replica) (held_history a.replica)

-- the histories agree, or not
pub agree-or_not : (ks : Judged) → OrNot (HistoriesAgree ks)
agree-or_not ks =
    elim (all-pairs TwoAgree (λ a b. either-or_not
    (IsBeginning-or_not (held_history a.replica) (held_history b.replica))
    (IsBeginning-or_not (held_history b.replica) (held_history a.replica))) ks ks) [
      | inl h ↦ inl h
      | inr r ↦ inr (λ h. r.4 (h r.0 r.1 r.2 r.3))
    ]

-- a reason holds, or the histories agree
reason-or_agree : (sizes : Sizes) (ks : Judged) → AreJudged sizes ks
    → ((r : Reason) × Holds ks r) ⊎ HistoriesAgree ks
reason-or_agree sizes ks j =
    let f = fronts-exist ks in
    elim (whole-or-unbacked ks f.0 f.1) [
      | inr v ↦ inl (elim v
          [ inl r ↦ (missing_vote r.0 r.1 r.2, r.3) | inr r ↦ (missing_take r.0 r.1 r.2, r.3) ])
      | inl whole ↦ elim (apart-or_collision ks j.distinct) [
        | inr c ↦ inl (collision c.0 c.1, c.2)
        | inl apart ↦ inr (backed-histories_agree sizes ks j apart (whole-none_unbacked ks f.0 f.1 whole))
      ]
    ]

-- the law of this name
pub each-fork_has_a_reason : EachForkHasAReason
each-fork_has_a_reason sizes ks j n = elim (reason-or_agree sizes ks j) [ inl r ↦ r | inr h ↦ absurd (n h) ]

-- the law of this name
pub each-audit_answers : EachAuditAnswers
each-audit_answers sizes ks j =
    elim (agree-or_not ks) [
      | inl h ↦ (agree, h)
      | inr n ↦ let r = each-fork_has_a_reason sizes ks j n in (fork r.0, (n, r.1))
    ]
