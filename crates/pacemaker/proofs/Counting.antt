-- How many numbers are at least a bound, and which of these is the least.
use Rattle.std.proofs.Common.{ℕ, zero, suc, ◌≡◌, ◌+◌, ◌<◌, ◌≤◌, ◌⊎◌, Bool, true, cond, leb, refl}
use Rattle.std.proofs.Common.{subst, arith, inl, inr}
use Rattle.std.proofs.Common.{List, length, filter, take, slice_index, ap, sym, ◌∙◌, add-one}
use Rattle.std.proofs.lemmas.List.Filters.{length-filter_more}
use Rattle.std.proofs.lemmas.Bool.{cases_lt, cond_both, leb-true, le-leb}
use Rattle.definitions.specs.Lists.{count_below}
use Rattle.definitions.proofs.Counts.{count-mono}

-- how many of the numbers below n have a value of at least v
abbrev pub at_least : ℕ → (ℕ → ℕ) → ℕ → ℕ
at_least n a v = count_below n (λ i. leb v (a i))

taken-step : (b : Bool) (x y z : ℕ) → x ≡ y + cond b 1 0 → y ≡ z → x ≡ cond b (suc z) z
taken-step b x y z e h = grind arith

-- of the first n numbers of a list, those that pass are counted by their places
pub count-taken : (n : ℕ) (p : ℕ → Bool) (xs : List ℕ) → n ≤ length xs
    → length (filter p (take n xs)) ≡ count_below n (λ i. p (slice_index xs i))
unfolding count_below
count-taken zero p xs l = refl
count-taken (suc n) p xs l =
    taken-step (p (slice_index xs n)) _ _ _
    (ap (λ k. length (filter p (take k xs))) (sym (add-one n))
    ∙ length-filter_more p xs n 0 (omega (arith, l)))
    (count-taken n p xs (omega (arith, l)))

-- where none passes, none is counted
pub count-none : (n : ℕ) (p : ℕ → Bool) → ((i : ℕ) → i < n → p i ≡ true → ⊥) → count_below n p ≡ 0
unfolding count_below
count-none zero p h = refl
count-none (suc n) p h =
    cond_both (p n) (suc (count_below n p)) (count_below n p) (λ (x : ℕ). x ≡ 0)
    (λ e. absurd (h n (omega arith) e))
    (λ e. count-none n p (λ i l. h i (omega (arith, l))))

-- the least value that is at least v, with its number
pub record IsLeast (n : ℕ) (a : ℕ → ℕ) (v i : ℕ) : Type 0 where
  pub below : i < n
  pub enough : v ≤ a i
  pub least : (j : ℕ) → j < n → v ≤ a j → a i ≤ a j

-- every number below the successor is the last one, or below it
each_below : (n : ℕ) (P : ℕ → Type 0) → P n → ((j : ℕ) → j < n → P j) → (j : ℕ) → j < suc n → P j
each_below n P last before j l =
    elim (cases_lt j n) [ inl below ↦ before j below | inr above ↦ subst P (omega arith) last ]

pub find_least : (n : ℕ) (a : ℕ → ℕ) (v : ℕ) → ((i : ℕ) × IsLeast n a v i) ⊎ ((j : ℕ) → j < n → a j < v)
find_least zero a v = inr (λ j l. absurd (omega (arith, l)))
find_least (suc n) a v = elim (find_least n a v) [
  | inl r ↦ elim (cases_lt (a n) v) [
    | inl low ↦ inl (
      r.0,
      record {
        below = omega (arith, r.1.below);
        enough = r.1.enough;
        least = each_below n (λ j. v ≤ a j → a r.0 ≤ a j) (λ h. absurd (omega (arith, h, low))) r.1.least;
      },
    )
    | inr high ↦ elim (cases_lt (a n) (a r.0)) [
      | inl less ↦ inl (
        n,
        record {
          below = omega arith;
          enough = high;
          least = each_below n (λ j. v ≤ a j → a n ≤ a j) (λ h. omega arith)
              (λ j l h. let k = r.1.least j l h in omega (arith, k, less));
        },
      )
      | inr more ↦ inl (
        r.0,
        record {
          below = omega (arith, r.1.below);
          enough = r.1.enough;
          least = each_below n (λ j. v ≤ a j → a r.0 ≤ a j) (λ h. more) r.1.least;
        },
      )
    ]
  ]
  | inr none ↦ elim (cases_lt (a n) v) [
    | inl low ↦ inr (each_below n (λ j. a j < v) low none)
    | inr high ↦ inl (
      n,
      record {
        below = omega arith;
        enough = high;
        least = each_below n (λ j. v ≤ a j → a n ≤ a j) (λ h. omega arith)
            (λ j l h. let k = none j l in absurd (omega (arith, k, h)));
      },
    )
  ]
]

-- what more than f have passed, one of them has passed that more than f have announced or passed
pub passed_least : (n f : ℕ) (a : ℕ → ℕ) (v : ℕ) → f < at_least n a v
    → (i : ℕ) × (i < n) × (v ≤ a i) × (f < at_least n a (a i))
passed_least n f a v h = elim (find_least n a v) [
  | inl r ↦
      let more = count-mono n (λ i. leb v (a i)) (λ i. leb (a r.0) (a i))
      (λ i l e. le-leb (a r.0) (a i) (r.1.least i l (leb-true v (a i) e))) in
      (r.0, r.1.below, r.1.enough, omega (arith, more, h))
  | inr none ↦
      let zero : at_least n a v ≡ 0 =
      count-none n (λ i. leb v (a i))
      (λ i l e. let k = none i l in let m = leb-true v (a i) e in omega (arith, k, m)) in
      absurd (omega (arith, zero, h))
]
