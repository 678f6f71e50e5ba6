-- Where the judged are a lawful family, their histories agree.
use Rattle.definitions.proofs.Chronicles.{executed-decided}
use Rattle.definitions.proofs.Histories.{history_of-grows, held-begins}
use Rattle.std.proofs.Common.{sym, subst, inl, inr}
use Rattle.ids.specs.Sizes.{Sizes}
use Rattle.definitions.specs.Lists.{IsBeginning, Among}
use Rattle.definitions.specs.Branches.{Branch, Extends}
use Rattle.definitions.specs.Chronicles.{history, Chronicle, executed, decided}
use Rattle.definitions.specs.Histories.{history_of}
use Rattle.definitions.specs.Replicas.{Replica, held_history}
use Rattle.definitions.specs.Agreement.{IsLawfulFamily}
use Rattle.definitions.specs.Audit.{Member, Judged, HistoriesAgree}
use Rattle.definitions.proofs.Lists.{IsBeginning-trans}
use Rattle.agreement.specs.Law.{IsDecided}
use Rattle.agreement.proofs.Agreement.{one-extends}
use Rattle.audit_ground.specs.Law.{AreJudged, judged_family, BackedHistoriesAgree}
use Rattle.audit_ground.proofs.Lists.{beginnings-comparable}
use Rattle.audit_ground.proofs.Members.{among-judged, chronicle-own}
use Rattle.audit_ground.proofs.Families.{backed-chronicles_are_orderly}

-- what a replica holds is a beginning of the history of any block that its last executed one is below
pub held-below : (r : Replica) (x : Branch) → Extends x (executed r.chronicle)
    → IsBeginning (held_history r) (history_of x)
unfolding history
held-below r x h = IsBeginning-trans (held_history r) (history_of (executed r.chronicle)) (history_of x)
    (held-begins r) (history_of-grows x (executed r.chronicle) h)

-- a member's last executed block was decided in the family
member-decided : (sizes : Sizes) (ks : Judged) → AreJudged sizes ks → (m : Member) → Among m ks
    → IsDecided (judged_family sizes ks) (executed m.replica.chronicle)
member-decided sizes ks j m n = (
  m.number,
  among-judged ks m n,
  subst (λ (c : Chronicle). Among (executed m.replica.chronicle) (decided c))
      (sym (chronicle-own ks j.distinct m n)) (executed-decided m.replica.chronicle),
)

-- the histories of a lawful family agree
lawful-agree : (sizes : Sizes) (ks : Judged) → AreJudged sizes ks → IsLawfulFamily (judged_family sizes ks)
    → HistoriesAgree ks
unfolding history
lawful-agree sizes ks j lawful a b ma mb =
    let x : Branch = executed a.replica.chronicle in
    let y : Branch = executed b.replica.chronicle in
    elim (one-extends (judged_family sizes ks) x y lawful (member-decided sizes ks j a ma)
    (member-decided sizes ks j b mb)) [
      | inl e ↦ beginnings-comparable _ _ (history_of x) (held-begins a.replica) (held-below b.replica x e)
      | inr e ↦ beginnings-comparable _ _ (history_of y) (held-below a.replica y e) (held-begins b.replica)
    ]

-- the law of this name
pub backed-histories_agree : BackedHistoriesAgree
backed-histories_agree sizes ks j apart none =
    lawful-agree sizes ks j (backed-chronicles_are_orderly sizes ks j apart none)
