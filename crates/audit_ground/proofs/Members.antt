-- Judged replicas by their numbers.
use Rattle.std.proofs.Common.{ℕ, suc, ◌≡◌, ◌<◌, ◌||◌, ◌==◌, not, Bool, true, false, List, [], ◌∷◌, length}
use Rattle.std.proofs.Common.{refl, sym}
use Rattle.std.proofs.Common.{ap, subst, ◌∙◌, arith, inl, inr, true≢false}
use Rattle.std.proofs.lemmas.Bool.{cond-true, cond-false, cases_Bool, eqb-true, eq-eqb, or_left, or_right}
use Rattle.std.proofs.lemmas.Bool.{or_parts, or_cases, not_from_true, not_from_false, not-false}
use Rattle.definitions.specs.Lists.{Among, AreDistinct, greatest}
use Rattle.definitions.specs.Chronicles.{Chronicle}
use Rattle.definitions.specs.Audit.{Member, Judged, is_judged, chronicle_of, each_judged}
use Rattle.definitions.proofs.Lists.{Among-mapped, Among-map, greatest-above, all-passes}
use Rattle.audit_ground.proofs.Lists.{all-from, all-fails}
use Rattle.audit_ground.specs.Law.{numbers}

-- a member's number is judged
pub among-judged : (ks : Judged) (m : Member) → Among m ks → is_judged ks m.number ≡ true
unfolding is_judged
among-judged [] m n = absurd n
among-judged (x ∷ rest) m (inl e) =
    or_left (x.number == m.number) (is_judged rest m.number)
    (eq-eqb x.number m.number (ap (λ (y : Member). y.number) (sym e)))
among-judged (x ∷ rest) m (inr n) =
    or_right (x.number == m.number) (is_judged rest m.number) (among-judged rest m n)

-- so is each of the numbers
pub number-judged : (ks : Judged) (i : ℕ) → Among i (numbers ks) → is_judged ks i ≡ true
number-judged ks i n =
    let r = Among-map (λ (m : Member). m.number) ks i n in ap (is_judged ks) r.2 ∙ among-judged ks r.0 r.1

-- the chronicle of a judged number is that of a member
pub judged-member : (ks : Judged) (i : ℕ) → is_judged ks i ≡ true
    → (m : Member) × Among m ks × (m.number ≡ i) × (chronicle_of ks i ≡ m.replica.chronicle)
unfolding is_judged chronicle_of
judged-member [] i h = absurd (true≢false (sym h))
judged-member (m ∷ rest) i h =
    elim (cases_Bool (m.number == i)) [
      | inl t ↦ (m, inl refl, eqb-true m.number i t, cond-true _ _ _ t)
      | inr f ↦ let r =
          judged-member rest i (later (m.number == i) f h) in (r.0, inr r.1, r.2, cond-false _ _ _ f ∙ r.3)
    ]
  where
    later : (t : Bool) → t ≡ false → (t || is_judged rest i) ≡ true → is_judged rest i ≡ true
    later true e k = absurd (true≢false e)
    later false e k = k

-- no steps stand for any other number
pub unjudged-none : (ks : Judged) (i : ℕ) → is_judged ks i ≡ false → chronicle_of ks i ≡ []
unfolding is_judged chronicle_of
unjudged-none [] i h = refl
unjudged-none (m ∷ rest) i h =
    let r = or_parts (m.number == i) (is_judged rest i) h in cond-false _ _ _ r.0 ∙ unjudged-none rest i r.1

-- where the numbers are distinct, each member's own chronicle stands for its number
pub chronicle-own : (ks : Judged) → AreDistinct (numbers ks) → (m : Member) → Among m ks
    → chronicle_of ks m.number ≡ m.replica.chronicle
unfolding chronicle_of
chronicle-own [] d m n = absurd n
chronicle-own (x ∷ rest) d m (inl e) =
    cond-true _ _ _ (eq-eqb x.number m.number (ap (λ (y : Member). y.number) (sym e)))
    ∙ ap (λ (y : Member). y.replica.chronicle) (sym e)
chronicle-own (x ∷ rest) d m (inr n) =
    elim (cases_Bool (x.number == m.number)) [
      | inl t ↦ absurd (d.0 (subst (λ (i : ℕ). Among i (numbers rest)) (sym (eqb-true x.number m.number t))
          (Among-mapped (λ (y : Member). y.number) rest m n)))
      | inr f ↦ cond-false _ _ _ f ∙ chronicle-own rest d.1 m n
    ]

-- no judged number is above this
abbrev pub bound : Judged → ℕ
bound ks = suc (greatest (numbers ks))

-- whose chronicle has steps is below it
pub steps-below : (ks : Judged) (i : ℕ) → 0 < length (chronicle_of ks i) → i < bound ks
steps-below ks i l =
    elim (cases_Bool (is_judged ks i)) [
      | inl t ↦
          let r = judged-member ks i t in
          let g =
          greatest-above (numbers ks) r.0.number (Among-mapped (λ (m : Member). m.number) ks r.0 r.1) in
          omega (arith, g, r.2)
      | inr f ↦
          absurd (let e = ap (λ (c : Chronicle). length c) (unjudged-none ks i f) in omega (arith, l, e))
    ]

-- ---- tests of those that are judged

-- where each judged one of them passes, the test does
pub each_judged-from : (ks : Judged) (p : ℕ → Bool) (vs : List ℕ)
    → ((v : ℕ) → Among v vs → is_judged ks v ≡ true → p v ≡ true) → each_judged ks p vs ≡ true
each_judged-from ks p vs h =
    all-from (λ v. not (is_judged ks v) || p v) vs (λ v m.
    elim (cases_Bool (is_judged ks v)) [
      | inl j ↦ or_right (not (is_judged ks v)) (p v) (h v m j)
      | inr f ↦ or_left (not (is_judged ks v)) (p v) (not_from_false (is_judged ks v) f)
    ])

-- and the other way
pub each_judged-passes : (ks : Judged) (p : ℕ → Bool) (vs : List ℕ) → each_judged ks p vs ≡ true → (v : ℕ)
    → Among v vs → is_judged ks v ≡ true → p v ≡ true
each_judged-passes ks p vs h v m j =
    elim (or_cases (not (is_judged ks v)) (p v) (all-passes (λ i. not (is_judged ks i) || p i) vs v h m)) [
      | inl n ↦ absurd (true≢false (sym n ∙ not_from_true (is_judged ks v) j))
      | inr t ↦ t
    ]

-- so for a weaker test too
pub each_judged-weaker : (ks : Judged) (p q : ℕ → Bool) (vs : List ℕ) → ((v : ℕ) → p v ≡ true → q v ≡ true)
    → each_judged ks p vs ≡ true → each_judged ks q vs ≡ true
each_judged-weaker ks p q vs up h =
    each_judged-from ks q vs (λ v m j. up v (each_judged-passes ks p vs h v m j))

-- where the test fails, a judged one of them does
pub each_judged-fails : (ks : Judged) (p : ℕ → Bool) (vs : List ℕ) → each_judged ks p vs ≡ false
    → (v : ℕ) × Among v vs × (is_judged ks v ≡ true) × (p v ≡ false)
each_judged-fails ks p vs e =
    let r = all-fails (λ v. not (is_judged ks v) || p v) vs e in
    let f = or_parts (not (is_judged ks r.0)) (p r.0) r.2 in
    (r.0, r.1, not-false (is_judged ks r.0) f.0, f.1)
