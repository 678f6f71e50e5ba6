-- One element of a list is changed, which alone passes a test.
use Rattle.std.proofs.Common.{ℕ, zero, suc, ◌≡◌, ◌+◌, ◌<◌, ◌≤◌, ◌||◌, Bool, true, false, cond, List, [], ◌∷◌, length}
use Rattle.std.proofs.Common.{map}
use Rattle.std.proofs.Common.{get_or, set, refl, sym, ap, ◌∙◌, arith, Some, None, true≢false}
use Rattle.std.specs.Prelude.{count_by, find, position}
use Rattle.std.specs.List.{list_any, position_or_len}
use Rattle.std.proofs.lemmas.List.Sums.{sum_by-cons, get_or-le-sum_by, fails_before_first}
use Rattle.std.proofs.lemmas.List.Folds.{find_at, list_any_none}
use Rattle.std.proofs.lemmas.List.Quantifiers.{position-Some}
use Rattle.std.proofs.lemmas.Bool.{ltb-false, true_from_ne_false}
use Rattle.std.proofs.Common.{nat_lt}
use Rattle.std.specs.Prelude.{slice_get}

pub get-at : {X : Type 0} (xs : List X) (i : ℕ) (d : X) → i < length xs → slice_get xs i ≡ Some (get_or xs i d)
get-at [] i d l = absurd (omega arith)
get-at (x ∷ xs) zero d l = refl
get-at (x ∷ xs) (suc i) d l = let within : i < length xs = omega arith in get-at xs i d within

-- what was read at a place is what stands there
pub read-at : {X : Type 0} (xs : List X) (i : ℕ) (m q : X) → m ≡ get_or xs i m → slice_get xs i ≡ Some q → m ≡ q
read-at [] i m q e at = absurd (cc)
read-at (x ∷ xs) zero m q e at = cc
read-at (x ∷ xs) (suc i) m q e at = read-at xs i m q e at

pub within-at : {X : Type 0} (xs : List X) (i : ℕ) (q : X) → slice_get xs i ≡ Some q → i < length xs
within-at [] i q at = absurd (cc)
within-at (x ∷ xs) zero q at = omega arith
within-at (x ∷ xs) (suc i) q at = let rest = within-at xs i q at in omega (arith, rest)

module _ {X : Type 0} (p : X → Bool) where
  pub count-yes : (x : X) (xs : List X) → p x ≡ true → count_by p (x ∷ xs) ≡ 1 + count_by p xs
  count-yes x xs e = sum_by-cons (λ (y : X). cond (p y) 1 0) x xs ∙ ap (λ b. cond {A = ℕ} b 1 0 + count_by p xs) e

  pub count-no : (x : X) (xs : List X) → p x ≡ false → count_by p (x ∷ xs) ≡ count_by p xs
  count-no x xs e =
      sum_by-cons (λ (y : X). cond (p y) 1 0) x xs ∙ ap (λ b. cond {A = ℕ} b 1 0 + count_by p xs) e ∙ omega arith

  -- where none passes
  pub none-counted : (xs : List X) → list_any p xs ≡ false → count_by p xs ≡ 0
  none-counted [] e = refl
  none-counted (x ∷ xs) e = by (p x) refl (none-counted xs)
    where
      by : (b : Bool) → p x ≡ b → (list_any p xs ≡ false → count_by p xs ≡ 0) → count_by p (x ∷ xs) ≡ 0
      by true t rest = absurd (true≢false (sym (ap (λ c. c || list_any p xs) t) ∙ e))
      by false t rest = count-no x xs t ∙ rest (sym (ap (λ c. c || list_any p xs) t) ∙ e)

  -- one that passes counts
  pub some-counted : (xs : List X) (i : ℕ) (d : X) → i < length xs → p (get_or xs i d) ≡ true → 1 ≤ count_by p xs
  some-counted xs i d l e =
      let own = get_or-le-sum_by (λ (y : X). cond (p y) 1 0) xs i d l in
      let one : cond {A = ℕ} (p (get_or xs i d)) 1 0 ≡ 1 = ap (λ b. cond {A = ℕ} b 1 0) e in omega (arith, own, one)

  module _ (f : X → X) where
    abbrev pub one-changed : List X → List X
    one-changed xs = map (λ x. cond (p x) (f x) x) xs

    pub none-changed : (xs : List X) → count_by p xs ≡ 0 → one-changed xs ≡ xs
    none-changed [] e = refl
    none-changed (x ∷ xs) e = by (p x) refl (none-changed xs)
      where
        by : (b : Bool) → p x ≡ b → (count_by p xs ≡ 0 → one-changed xs ≡ xs) → one-changed (x ∷ xs) ≡ x ∷ xs
        by true t rest = absurd (omega (arith, count-yes x xs t, e))
        by false t rest =
            ap (λ b. cond b (f x) x ∷ one-changed xs) t ∙ ap (λ l. x ∷ l) (rest (sym (count-no x xs t) ∙ e))

    pub changed-at : (xs : List X) (i : ℕ) (d : X) → i < length xs → p (get_or xs i d) ≡ true → count_by p xs ≤ 1
        → set xs i (f (get_or xs i d)) ≡ one-changed xs
    changed-at [] i d l e once = absurd (omega arith)
    changed-at (x ∷ xs) zero d l e once =
        let none : count_by p xs ≡ 0 = omega (arith, count-yes x xs e, once) in
        ap (λ r. f x ∷ r) (sym (none-changed xs none)) ∙ sym (ap (λ b. cond b (f x) x ∷ one-changed xs) e)
    changed-at (x ∷ xs) (suc i) d l e once = by (p x) refl (changed-at xs i d within e)
      where
        within : i < length xs
        within = omega arith

        by : (b : Bool) → p x ≡ b → (count_by p xs ≤ 1 → set xs i (f (get_or xs i d)) ≡ one-changed xs)
            → x ∷ set xs i (f (get_or xs i d)) ≡ one-changed (x ∷ xs)
        by true t rest = absurd (omega (arith, count-yes x xs t, some-counted xs i d within e, once))
        by false t rest =
            let few : count_by p xs ≤ 1 = omega (arith, count-no x xs t, once) in
            ap (λ r. x ∷ r) (rest few) ∙ sym (ap (λ b. cond b (f x) x ∷ one-changed xs) t)

  -- ---- the place of the first that passes

  pub first-place : (xs : List X) (i : ℕ) → position p xs ≡ Some i → position_or_len p xs ≡ i
  first-place xs i e = by (nat_lt (position_or_len p xs) (length xs)) e
    where
      by : (b : Bool) → cond b (Some (position_or_len p xs)) None ≡ Some i → position_or_len p xs ≡ i
      by true h = cc
      by false h = absurd (cc)

  pub none-found : (xs : List X) → position p xs ≡ None → list_any p xs ≡ false
  none-found xs e =
      list_any_none p xs (λ k d l. fails_before_first p xs k d
      (let past = by (nat_lt (position_or_len p xs) (length xs)) refl e in omega (arith, past, l)))
    where
      by : (b : Bool) → nat_lt (position_or_len p xs) (length xs) ≡ b
          → cond b (Some (position_or_len p xs)) None ≡ None → length xs ≤ position_or_len p xs
      by true t h = absurd (cc)
      by false t h = ltb-false (position_or_len p xs) (length xs) t

  pub found-at : (xs : List X) (i : ℕ) (d : X) → position p xs ≡ Some i → find p xs ≡ Some (get_or xs i d)
  found-at xs i d e =
      find_at p xs ∙ ap (slice_get xs) (first-place xs i e) ∙ get-at xs i d (position-Some p xs i d e).0

  -- it is changed there
  pub written : (f : X → X) (xs : List X) (i : ℕ) (old new : X) → count_by p xs ≤ 1 → position p xs ≡ Some i
      → old ≡ get_or xs i old → new ≡ f old → set xs i new ≡ one-changed f xs
  written f xs i old new once e at is =
      let found = position-Some p xs i old e in
      ap (set xs i) (is ∙ ap f at) ∙ changed-at f xs i old found.0 found.1 once

  -- where none passes nothing is changed
  pub unwritten : (f : X → X) (xs : List X) → position p xs ≡ None → one-changed f xs ≡ xs
  unwritten f xs e = none-changed f xs (none-counted xs (none-found xs e))

  pub found-any : (xs : List X) (i : ℕ) → position p xs ≡ Some i → list_any p xs ≡ true
  found-any [] i e = absurd (cc)
  found-any (x ∷ xs) i e =
      true_from_ne_false (list_any p (x ∷ xs)) (λ none.
      let found = position-Some p (x ∷ xs) i x e in
      omega (arith, none-counted (x ∷ xs) none, some-counted (x ∷ xs) i x found.0 found.1))
