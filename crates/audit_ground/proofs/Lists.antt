-- Tests on lists, beginnings, and the step after a beginning.
use Rattle.std.proofs.Common.{ℕ, suc, ◌≡◌, ◌<◌, ◌≤◌, ◌⊎◌, Bool, true, false, List, [], ◌∷◌, ◌++◌, length}
use Rattle.std.proofs.Common.{refl, sym, ap, subst, ◌∙◌, arith, inl, inr, Option, Some, None, true≢false}
use Rattle.std.specs.List.{list_any, list_all}
use Rattle.std.proofs.lemmas.Bool.{cond_both, cond-true, cond-false, cases_lt, cases_eq, eq-eqb, ne_eqb}
use Rattle.std.proofs.lemmas.Bool.{le-ltb, lt-ltb, and_parts, and_from, and_cases}
use Rattle.std.proofs.lemmas.Bool.{or_right}
use lib.Dec.{eqb, ltb}
use Rattle.definitions.specs.Lists.{beginning, IsBeginning, Among}
use Rattle.definitions.specs.Audit.{step_after}
use Rattle.definitions.proofs.Lists.{beginning-whole, length-added}

-- ---- tests

-- where each element passes, all do
pub all-from : {A : Type 0} (p : A → Bool) (xs : List A) → ((x : A) → Among x xs → p x ≡ true)
    → list_all p xs ≡ true
all-from p [] h = refl
all-from p (x ∷ xs) h = and_from (p x) (list_all p xs) (h x (inl refl)) (all-from p xs (λ y m. h y (inr m)))

-- what passes everywhere does so for a weaker test too
pub all-weaker : {A : Type 0} (p q : A → Bool) (xs : List A) → ((x : A) → p x ≡ true → q x ≡ true)
    → list_all p xs ≡ true → list_all q xs ≡ true
all-weaker p q [] h a = refl
all-weaker p q (x ∷ xs) h a =
    let r =
    and_parts (p x) (list_all p xs) a in and_from (q x) (list_all q xs) (h x r.0) (all-weaker p q xs h r.1)

-- what does not pass everywhere fails at an element
pub all-fails : {A : Type 0} (p : A → Bool) (xs : List A) → list_all p xs ≡ false
    → (x : A) × Among x xs × (p x ≡ false)
all-fails p [] e = absurd (true≢false e)
all-fails p (x ∷ xs) e =
    elim (and_cases (p x) (list_all p xs) e) [
      | inl h ↦ (x, inl refl, h)
      | inr h ↦ let r = all-fails p xs h in (r.0, inr r.1, r.2)
    ]

-- ---- beginnings

-- the beginning of no elements is empty
pub beginning-none : {A : Type 0} (xs : List A) → beginning 0 xs ≡ []
unfolding beginning
beginning-none [] = refl
beginning-none (x ∷ older) = cond-false _ _ _ (le-ltb (length older) 0 (omega arith)) ∙ beginning-none older

-- a beginning that has room for the newest element is the whole list
beginning-newest : {A : Type 0} (k : ℕ) (x : A) (older : List A) → length older < k
    → beginning k (x ∷ older) ≡ x ∷ older
unfolding beginning
beginning-newest k x older l = cond-true _ _ _ (lt-ltb (length older) k l)

-- one that has none is that of the older elements
pub beginning-older : {A : Type 0} (k : ℕ) (x : A) (older : List A) → k ≤ length older
    → beginning k (x ∷ older) ≡ beginning k older
unfolding beginning
beginning-older k x older l = cond-false _ _ _ (le-ltb (length older) k l)

-- an element of a beginning is one of the list
pub Among-beginning : {A : Type 0} (k : ℕ) (xs : List A) (y : A) → Among y (beginning k xs) → Among y xs
unfolding beginning
Among-beginning k [] y m = m
Among-beginning {A} k (x ∷ older) y m =
    cond_both (ltb (length older) k) (x ∷ older) (beginning k older)
    (λ (b : List A). Among y b → Among y (x ∷ older)) (λ e n. n)
    (λ e n. inr (Among-beginning k older y n)) m

-- what passes in a beginning passes in the list
any-later : {A : Type 0} (p : A → Bool) (k : ℕ) (xs : List A) → list_any p (beginning k xs) ≡ true
    → list_any p xs ≡ true
unfolding beginning
any-later p k [] h = h
any-later {A} p k (x ∷ older) h =
    cond_both (ltb (length older) k) (x ∷ older) (beginning k older)
    (λ (b : List A). list_any p b ≡ true → list_any p (x ∷ older) ≡ true)
    (λ e g. g)
    (λ e g. or_right (p x) (list_any p older) (any-later p k older g))
    h

-- and in a longer beginning
pub any-longer : {A : Type 0} (p : A → Bool) (m k : ℕ) (xs : List A) → m ≤ k
    → list_any p (beginning m xs) ≡ true → list_any p (beginning k xs) ≡ true
unfolding beginning
any-longer p m k [] l h = h
any-longer {A} p m k (x ∷ older) l h =
    elim (cases_lt (length older) k) [
      | inl a ↦ subst (λ (b : List A). list_any p b ≡ true) (sym (beginning-newest k x older a))
          (any-later p m (x ∷ older) h)
      | inr a ↦
          subst (λ (b : List A). list_any p b ≡ true) (sym (beginning-older k x older a))
          (any-longer p m k older l
          (subst (λ (b : List A). list_any p b ≡ true) (beginning-older m x older (omega arith)) h))
    ]

-- of two lists that end one list one is a beginning of the other
ends-comparable : {A : Type 0} (a b whole p q : List A) → p ++ a ≡ whole → q ++ b ≡ whole
    → IsBeginning a b ⊎ IsBeginning b a
ends-comparable a b whole [] q e f = inr (q, f ∙ sym e)
ends-comparable a b whole (x ∷ p) [] e f = inl (x ∷ p, e ∙ sym f)
ends-comparable {A} a b whole (x ∷ p) (y ∷ q) e f = ends-comparable a b (p ++ a) p q refl (tails (f ∙ sym e))
  where
    tails : y ∷ (q ++ b) ≡ x ∷ (p ++ a) → q ++ b ≡ p ++ a
    tails h = cc

-- of two beginnings of one list one is a beginning of the other
pub beginnings-comparable : {A : Type 0} (a b whole : List A) → IsBeginning a whole → IsBeginning b whole
    → IsBeginning a b ⊎ IsBeginning b a
beginnings-comparable a b whole h k = ends-comparable a b whole h.0 k.0 h.1 k.1

-- ---- the step after a beginning

-- the newest step follows all the others
pub step_after-newest : {A : Type 0} (x : A) (older : List A) → step_after (length older) (x ∷ older) ≡ Some x
unfolding step_after
step_after-newest x older = cond-true _ _ _ (eq-eqb (length older) (length older) refl)

-- any other step is an older one
pub step_after-older : {A : Type 0} (k : ℕ) (x : A) (older : List A) → (length older ≡ k → ⊥)
    → step_after k (x ∷ older) ≡ step_after k older
unfolding step_after
step_after-older k x older n = cond-false _ _ _ (ne_eqb (length older) k n)

-- a beginning that is not whole is followed by a step
pub step_after-some : {A : Type 0} (k : ℕ) (xs : List A) → k < length xs
    → (x : A) × (step_after k xs ≡ Some x)
step_after-some k [] l = absurd (omega arith)
step_after-some {A} k (x ∷ older) l =
    elim (cases_eq (length older) k) [
      | inl e ↦ (x, subst (λ (j : ℕ). step_after j (x ∷ older) ≡ Some x) e (step_after-newest x older))
      | inr n ↦ let r = step_after-some k older (omega arith) in (r.0, step_after-older k x older n ∙ r.1)
    ]

-- nothing follows the whole
pub step_after-none : {A : Type 0} (k : ℕ) (xs : List A) → length xs ≤ k → step_after k xs ≡ None
unfolding step_after
step_after-none k [] l = refl
step_after-none k (x ∷ older) l =
    cond-false _ _ _ (ne_eqb (length older) k (λ e. omega arith)) ∙ step_after-none k older (omega arith)

-- what is followed is not whole
pub step_after-within : {A : Type 0} (k : ℕ) (xs : List A) (x : A) → step_after k xs ≡ Some x → k < length xs
step_after-within {A} k xs x e =
    elim (cases_lt k (length xs))
    [ inl l ↦ l | inr g ↦ absurd (none_some (sym (step_after-none k xs g) ∙ e)) ]
  where
    none_some : None ≡ Some x → ⊥
    none_some h = cc

-- a list with one more element, if there is one
abbrev pub extend : {A : Type 0} → Option A → List A → List A
extend None xs = xs
extend (Some x) xs = x ∷ xs

-- a beginning and the step after it are the next beginning
pub beginning-next : {A : Type 0} (k : ℕ) (xs : List A)
    → extend (step_after k xs) (beginning k xs) ≡ beginning (suc k) xs
unfolding step_after beginning
beginning-next k [] = refl
beginning-next {A} k (x ∷ older) =
    elim (cases_lt (length older) k) [
      | inl l ↦
          ap (λ (o : Option A). extend o (beginning k (x ∷ older))) (step_after-none k (x ∷ older) l)
          ∙ (beginning-newest k x older l ∙ sym (beginning-newest (suc k) x older (omega arith)))
      | inr g ↦ elim (cases_eq (length older) k) [
        | inl e ↦
            subst (λ (j : ℕ). extend (step_after j (x ∷ older)) (beginning j (x ∷ older))
            ≡ beginning (suc j) (x ∷ older)) e
            (ap (λ (o : Option A). extend o (beginning (length older) (x ∷ older)))
            (step_after-newest x older)
            ∙ (ap (λ (l : List A). x ∷ l)
            (beginning-older (length older) x older (omega arith) ∙ beginning-whole older)
            ∙ sym (beginning-newest (suc (length older)) x older (omega arith))))
        | inr n ↦
            ap (λ (o : Option A). extend o (beginning k (x ∷ older))) (step_after-older k x older n)
            ∙ (ap (extend (step_after k older)) (beginning-older k x older g)
            ∙ (beginning-next k older ∙ sym (beginning-older (suc k) x older (omega arith))))
      ]
    ]

-- a step that follows a beginning is one of the list
pub step_after-among : {A : Type 0} (k : ℕ) (xs : List A) (x : A) → step_after k xs ≡ Some x → Among x xs
unfolding step_after
step_after-among {A} k [] x e = absurd (none_some e)
  where
    none_some : None ≡ Some x → ⊥
    none_some h = cc
step_after-among {A} k (y ∷ older) x e =
    cond_both (eqb (length older) k) (Some y) (step_after k older)
    (λ (o : Option A). o ≡ Some x → Among x (y ∷ older)) (λ t h. inl (some_one (sym h)))
    (λ f h. inr (step_after-among k older x h)) e
  where
    some_one : Some x ≡ Some y → x ≡ y
    some_one h = cc

-- what stands on a list within a longer one is the step after it
pub step_after-beginning : {A : Type 0} (x : A) (older newer : List A) → IsBeginning (x ∷ older) newer
    → step_after (length older) newer ≡ Some x
step_after-beginning {A} x older newer b =
    subst (λ (l : List A). step_after (length older) l ≡ Some x) b.1 (by b.0)
  where
    by : (added : List A) → step_after (length older) (added ++ (x ∷ older)) ≡ Some x
    by [] = step_after-newest x older
    by (y ∷ added) =
        step_after-older (length older) y (added ++ (x ∷ older))
        (λ e. (let l = length-added added (x ∷ older) in absurd (omega (arith, l, e)))) ∙ by added
