-- The first of the questions that are due, with one more.
use Rattle.std.proofs.Common.{ℕ, ◌≡◌, ◌⊎◌, ◌+◌, ◌<◌, ◌==◌, ◌&&◌, ◌||◌, Bool, true, false, inl, inr, arith, sym, ap}
use Rattle.std.proofs.Common.{subst, ◌∙◌, Option, Some, None, true≢false, nat_lt}
use Rattle.std.specs.Prelude.{slice_get}
use Rattle.std.proofs.lemmas.Bool.{cases_eq}
use Rattle.asking.specs.Asking.{Asking, Question, comes_before, is_due, places_behind}
use Rattle.asking.specs.Choosing.{IsFirstOf, IsSoonerThan}

-- one pair of numbers comes before another
abbrev is_below : (r d r' d' : ℕ) → Bool
is_below r d r' d' = nat_lt r r' || ((r == r') && nat_lt d d')

-- none comes before itself
not-below : (r d : ℕ) → is_below r d r d ≡ false
not-below r d = grind arith

-- what doesn't come before a later one doesn't come before an earlier one
not-below-earlier : (r d r' d' r'' d'' : ℕ) → is_below r' d' r'' d'' ≡ true → is_below r d r'' d'' ≡ false
    → is_below r d r' d' ≡ false
not-below-earlier r d r' d' r'' d'' h k = grind arith

-- two questions at one place are one
same-at : (a : Asking) (place k : ℕ) (q other : Question) → k ≡ place → slice_get a.questions place ≡ Some q
    → slice_get a.questions k ≡ Some other → other ≡ q
same-at a place k q other e at at' =
    let both : slice_get a.questions place ≡ Some other = ap (slice_get a.questions) (sym e) ∙ at' in cc

-- a question that is due and comes before the first one is the first
pub first-taken : (a : Asking) (now place : ℕ) (first : Option ℕ) (q : Question)
    → slice_get a.questions place ≡ Some q → is_due now q ≡ true → IsSoonerThan a q first true
    → IsFirstOf a now place first → IsFirstOf a now (place + 1) (Some place)
first-taken a now place None q at due sooner are = (
  q,
  at,
  due,
  λ k other l at' due'. elim (cases_eq k place) [
    | inl e ↦ subst (λ o. comes_before a.replicas a.turn o q ≡ false) (sym (same-at a place k q other e at at'))
        (not-below (places_behind a.replicas a.turn q.payer) q.due)
    | inr n ↦ let l' : k < place = omega arith in absurd (true≢false (sym due' ∙ are k other l' at'))
  ],
)
first-taken a now place (Some b) q at due sooner are = (
  q,
  at,
  due,
  λ k other l at' due'. elim (cases_eq k place) [
    | inl e ↦ subst (λ o. comes_before a.replicas a.turn o q ≡ false) (sym (same-at a place k q other e at at'))
        (not-below (places_behind a.replicas a.turn q.payer) q.due)
    | inr n ↦ let l' : k < place = omega arith in
        not-below-earlier (places_behind a.replicas a.turn other.payer) other.due
        (places_behind a.replicas a.turn q.payer) q.due (places_behind a.replicas a.turn are.0.payer) are.0.due
        (sym (sooner are.0 are.1)) (are.3 k other l' at' due')
  ],
)

-- one that isn't due, or comes before no first one, leaves it
pub first-left : (a : Asking) (now place : ℕ) (first : Option ℕ) (q : Question)
    → slice_get a.questions place ≡ Some q → (is_due now q ≡ false) ⊎ IsSoonerThan a q first false
    → IsFirstOf a now place first → IsFirstOf a now (place + 1) first
first-left a now place None q at why are = λ k other l at'. elim (cases_eq k place) [
  | inl e ↦ subst (λ o. is_due now o ≡ false) (sym (same-at a place k q other e at at')) (elim why [
    | inl late ↦ late
    | inr other-first ↦ absurd (true≢false (sym other-first))
  ])
  | inr n ↦ let l' : k < place = omega arith in are k other l' at'
]
first-left a now place (Some b) q at why are = (
  are.0,
  are.1,
  are.2,
  λ k other l at' due'. elim (cases_eq k place) [
    | inl e ↦
        let same = same-at a place k q other e at at' in
        subst (λ o. comes_before a.replicas a.turn o are.0 ≡ false) (sym same) (elim why [
          | inl late ↦ absurd (true≢false (sym (subst (λ o. is_due now o ≡ true) same due') ∙ late))
          | inr other-first ↦ sym (other-first are.0 are.1)
        ])
    | inr n ↦ let l' : k < place = omega arith in are.3 k other l' at' due'
  ],
)
