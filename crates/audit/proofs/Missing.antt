-- What is missing at the fronts.
use Rattle.std.proofs.Common.{ℕ, ◌≡◌, Bool, true, false, List, [], refl, sym, ap, subst, ◌∙◌, inl, inr}
use Rattle.std.proofs.Common.{Option, None, Some, true≢false, not, length, arith}
use Rattle.std.specs.Prelude.{◌==◌, All, MatchOption}
use Rattle.std.specs.Option.{is_some}
use Rattle.std.specs.Borrow.{Bor}
use Rattle.std.specs.List.{list_all, list_any}
use Rattle.std.proofs.lemmas.Option.{same_Some}
use Rattle.std.proofs.lemmas.Bool.{cases_Bool, cases_lt, eqb-true, eq-eqb, and_parts, and_from}
use Rattle.definitions.specs.Bytes.{Bytes}
use Rattle.definitions.specs.Lists.{Among, beginning}
use Rattle.definitions.specs.Frames.{Core}
use Rattle.definitions.specs.Digests.{digest}
use Rattle.definitions.specs.Chronicles.{Step, Step.took_block, Step.noted}
use Rattle.definitions.specs.Audit.{Judged, Cut, is_judged, chronicle_of, counted_by, counted_for, sent_by}
use Rattle.definitions.specs.Audit.{sent_block, step_after, is_backed, may_move, AreFronts}
use Rattle.definitions.specs.Audit.{has_vote, has_taken, core_in}
use Rattle.audit_ground.specs.Law.{NoneUnbacked}
use Rattle.definitions.proofs.Lists.{all-passes}
use Rattle.definitions.proofs.Lists.{any-found, any-from}
use Rattle.audit_ground.proofs.Lists.{step_after-some}
use Rattle.audit_ground.proofs.Fronts.{behind-not_backed, whole-none_unbacked, fronts-short, is_backed_if}
use Rattle.audit_ground.proofs.Fronts.{may_move-is}
use Rattle.replica.specs.Steps.{Held}
use Rattle.audit.specs.Judged.{judged}
use Rattle.audit.specs.declared.deeds.Deed.{Deed}
use Rattle.audit.specs.declared.deeds.Deed.TheVariants.{Vote, Take}
use Rattle.audit.specs.declared.deeds.Missing.{Missing}
use Rattle.audit.specs.Deeds.{does, named_by, named_for, is_done, stands}
use Rattle.audit.specs.Deeds.{IsMissing}
use Rattle.audit.proofs.ByNumber.{by-number}
use Rattle.audit.proofs.Lists.{each-holds}
use Rattle.audit.proofs.Moves.{no-steps}

-- a step behind a front isn't backed
pub not-behind : (ks : Judged) (k : Cut) (u : ℕ) (s : Step) → AreFronts ks k
    → step_after (k u) (chronicle_of ks u) ≡ Some s → is_backed ks k s ≡ true → ⊥
not-behind ks k u s f behind b = true≢false (sym b ∙ behind-not_backed ks k f u s behind)

none_some : {A : Type 0} {x : A} → None ≡ Some x → ⊥
none_some e = cc

-- where nothing is behind a front, it is whole
whole : (ks : Judged) (k : Cut) (u : ℕ) → AreFronts ks k → step_after (k u) (chronicle_of ks u) ≡ None
    → k u ≡ length (chronicle_of ks u)
whole ks k u f none =
    elim (cases_lt (k u) (length (chronicle_of ks u))) [
      | inl l ↦ absurd (none_some (sym none ∙ (step_after-some (k u) (chronicle_of ks u) l).1))
      | inr g ↦ let s = fronts-short ks k f u in omega (arith, s, g)
    ]

-- where all fronts are whole, no vote is unbacked
pub none-unbacked : (rs : List (Bor Held)) (k : Cut) → AreFronts (judged rs) k
    → All (λ r. step_after (k r.now.keys.party) (chronicle_of (judged rs) r.now.keys.party) ≡ None) rs
    → NoneUnbacked (judged rs)
none-unbacked rs k f h = whole-none_unbacked (judged rs) k f (λ u. whole (judged rs) k u f (ends u))
  where
    ends : (u : ℕ) → step_after (k u) (chronicle_of (judged rs) u) ≡ None
    ends u = elim (cases_Bool (is_judged (judged rs) u)) [
      | inl t ↦
          let r = by-number rs u t in
          subst (λ (i : ℕ). step_after (k i) (chronicle_of (judged rs) i) ≡ None) r.2
          (each-holds (λ (x : Bor Held).
          step_after (k x.now.keys.party) (chronicle_of (judged rs) x.now.keys.party) ≡ None) rs h r.0 r.1)
      | inr n ↦ no-steps (judged rs) (k u) u n
    ]

-- a step without a core names no senders
pub no-core : (s : Step) → None ≡ core_in (Some s) → sent_by s ≡ []
unfolding core_in sent_by
no-core (took_block a) e = absurd (none_some e)
no-core (noted n) e = refl

-- and they sent the block of its core
pub own-core : (s : Step) (a : Core) → Some a ≡ core_in (Some s) → digest a ≡ sent_block s
unfolding core_in sent_block
own-core (took_block x) a e = ap digest (same_Some a x.core e)
own-core (noted n) a e = absurd (none_some (sym e))

-- whether v did it in the cut
pub done-in : (deed : Deed) (ks : Judged) (k : Cut) (d : Bytes) (v : ℕ)
    → list_any (does deed d) (beginning (k v) (chronicle_of ks v)) ≡ is_done deed ks k d v
unfolding has_vote has_taken
done-in Vote ks k d v = refl
done-in Take ks k d v = refl

-- of a step that is backed, the deeds of each kind stand
each-stands : (deed : Deed) (ks : Judged) (k : Cut) (s : Step) → is_backed ks k s ≡ true
    → list_all (stands deed ks k (named_for deed s)) (named_by deed s) ≡ true
unfolding is_backed
each-stands Vote ks k s h = (and_parts _ _ h).0
each-stands Take ks k s h = (and_parts _ _ h).1

-- and one of which they do is backed
all-backed : (ks : Judged) (k : Cut) (s : Step)
    → list_all (stands Vote ks k (counted_for s)) (counted_by s) ≡ true
    → list_all (stands Take ks k (sent_block s)) (sent_by s) ≡ true → is_backed ks k s ≡ true
unfolding is_backed
all-backed ks k s h i = and_from _ _ h i

-- one that doesn't stand is enough
lacking : (ks : Judged) (k : Cut) (s : Step) (m : Missing) → IsMissing ks k s m → is_backed ks k s ≡ false
lacking ks k s m is =
    elim (cases_Bool (is_backed ks k s)) [
      | inl t ↦ absurd (true≢false (sym (all-passes (stands m.deed ks k (named_for m.deed s))
          (named_by m.deed s) m.replica (each-stands m.deed ks k s t) is.named.among)
          ∙ ap (λ (x : Bytes). stands m.deed ks k x m.replica) is.named.block ∙ is.missing))
      | inr f ↦ f
    ]

-- what was looked for among the deeds of the second kind, where those of the first stand
pub else-backed : (ks : Judged) (k : Cut) (s : Step) (o : Option Missing)
    → list_all (stands Vote ks k (counted_for s)) (counted_by s) ≡ true
    → MatchOption o (list_all (stands Take ks k (sent_block s)) (sent_by s) ≡ true) (IsMissing ks k s)
    → MatchOption o (is_backed ks k s ≡ true) (IsMissing ks k s)
else-backed ks k s None h i = all-backed ks k s h i
else-backed ks k s (Some m) h i = i

-- of those that a step names all stand, where it names none or each was looked at
pub none-named : (deed : Deed) (ks : Judged) (k : Cut) (s : Step) → named_by deed s ≡ []
    → list_all (stands deed ks k (named_for deed s)) (named_by deed s) ≡ true
none-named deed ks k s e = ap (list_all (stands deed ks k (named_for deed s))) e

pub all-named : (deed : Deed) (ks : Judged) (k : Cut) (s : Step) (d : Bytes) (vs : List ℕ)
    → vs ≡ named_by deed s → d ≡ named_for deed s → list_all (stands deed ks k d) vs ≡ true
    → list_all (stands deed ks k (named_for deed s)) (named_by deed s) ≡ true
all-named deed ks k s d vs v e h = sym (λ i. list_all (stands deed ks k (e i)) (v i)) ∙ h

-- the replica may move where its next step is backed
pub moves : (ks : Judged) (k : Cut) (u : ℕ) (s : Step) → Some s ≡ step_after (k u) (chronicle_of ks u)
    → may_move ks k u ≡ is_backed ks k s
unfolding is_backed_if
moves ks k u s e = may_move-is ks k u ∙ ap (is_backed_if ks k) (sym e)

-- and not where it has none
pub moves-not : (ks : Judged) (k : Cut) (u : ℕ) → None ≡ step_after (k u) (chronicle_of ks u)
    → may_move ks k u ≡ false
unfolding is_backed_if
moves-not ks k u e = may_move-is ks k u ∙ ap (is_backed_if ks k) (sym e)

told : (b r : Bool) → b ≡ not r → r ≡ not b
told true true e = e
told true false e = refl
told false true e = refl
told false false e = e

-- none is missing exactly where the step is backed
pub none-missing : (ks : Judged) (k : Cut) (s : Step) (o : Option Missing)
    → MatchOption o (is_backed ks k s ≡ true) (IsMissing ks k s)
    → (r : Bool) → is_some o ≡ not r → r ≡ is_backed ks k s
none-missing ks k s None h r e = told false r e ∙ sym h
none-missing ks k s (Some m) h r e = told true r e ∙ sym (lacking ks k s m h)

-- a number is among these where one of them equals it
pub among-from : (v : ℕ) (xs : List ℕ) → list_any (λ y. y == v) xs ≡ true → Among v xs
among-from v xs h =
    let r = any-found (λ (y : ℕ). y == v) xs h in
    subst (λ (x : ℕ). Among x xs) (eqb-true r.0 v r.2) r.1

pub among-to : (v : ℕ) (xs : List ℕ) → Among v xs → list_any (λ y. y == v) xs ≡ true
among-to v xs m = any-from (λ (y : ℕ). y == v) xs v m (eq-eqb v v refl)
