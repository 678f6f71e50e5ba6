-- Counting the numbers below a bound that pass a test.
use Rattle.definitions.proofs.Lists.{AllByRecursion-from}
use Rattle.std.proofs.Common.{ℕ, zero, suc, ◌≡◌, ◌+◌, ◌<◌, ◌≤◌, ◌⊎◌, ◌||◌, Bool, true, false, List, [], ◌∷◌}
use Rattle.std.proofs.Common.{length, cond, refl, sym, ap, ◌∙◌, arith, inl, inr, ◌==◌, ◌&&◌, not}
use Rattle.std.proofs.lemmas.Bool.{cond_both, cond-true, cond-false, cases_Bool, eq-eqb, ne_eqb, or_right}
use Rattle.std.proofs.lemmas.Bool.{cases_eq, not_from_true}
use Rattle.std.specs.List.{AllByRecursion}
use Rattle.definitions.specs.Lists.{Among, AreDistinct, count_below}

-- ---- counting

-- the test with one more number that passes
abbrev pub or_at : (ℕ → Bool) → ℕ → ℕ → Bool
or_at p v i = p i || (i == v)

pub or_at-other : (p : ℕ → Bool) (v i : ℕ) → (i ≡ v → ⊥) → or_at p v i ≡ p i
or_at-other p v i d = by (p i) (i == v) (ne_eqb i v d)
  where
    by : (x y : Bool) → y ≡ false → (x || y) ≡ x
    by true y e = refl
    by false y e = e

pub count-step : (n m : ℕ) (a b : Bool) (x y : ℕ) → a ≡ b → x ≡ m + y
    → cond a (suc x) x ≡ m + cond b (suc y) y
count-step n m a true x y e h = cond-true _ _ _ e ∙ (omega arith)
count-step n m a false x y e h = cond-false _ _ _ e ∙ h

pub count-beyond : (n : ℕ) (p : ℕ → Bool) (v : ℕ) → n ≤ v → count_below n (or_at p v) ≡ 0 + count_below n p
unfolding count_below
count-beyond zero p v l = omega arith
count-beyond (suc n) p v l =
    count-step n 0 (or_at p v n) (p n) _ _ (or_at-other p v n (λ e. omega arith))
    (count-beyond n p v (omega arith))

pub count-more : (n : ℕ) (p : ℕ → Bool) (v : ℕ) → p v ≡ false → v < n
    → count_below n (or_at p v) ≡ 1 + count_below n p
unfolding count_below
count-more zero p v f l = absurd (omega arith)
count-more (suc n) p v f l =
    elim (cases_eq n v) [
      | inl e ↦
          (let k =
          count-beyond n p v (omega arith) in
          cond-true _ _ _ (or_right (p n) (n == v) (eq-eqb n v e))
          ∙ (ap suc k ∙ (ap (λ (x : ℕ). suc x) (omega arith)
          ∙ (omega_suc _ ∙ ap (λ (x : ℕ). 1 + x) (sym (cond-false _ _ _ (ap p e ∙ f)))))))
      | inr d ↦
          count-step n 1 (or_at p v n) (p n) _ _ (or_at-other p v n d) (count-more n p v f (omega arith))
    ]
  where
    omega_suc : (x : ℕ) → suc x ≡ 1 + x
    omega_suc x = omega arith

pub count-within : (n : ℕ) (p : ℕ → Bool) → count_below n p ≤ n
unfolding count_below
count-within zero p = omega arith
count-within (suc n) p =
    let h =
    count-within n p in
    cond_both (p n) (suc (count_below n p)) (count_below n p) (λ (x : ℕ). x ≤ suc n)
    (λ e. omega (arith, h)) (λ e. omega (arith, h))

-- distinct numbers below n none of which passes leave room for those that pass
pub apart-count : (n : ℕ) (p : ℕ → Bool) (vs : List ℕ) → AreDistinct vs → AllByRecursion (λ v. v < n) vs
    → AllByRecursion (λ v. p v ≡ false) vs → length vs + count_below n p ≤ n
apart-count n p [] d l f = let h = count-within n p in omega (arith, h)
apart-count n p (v ∷ vs) d l f =
    let h = apart-count n (or_at p v) vs d.1 l.1 (others p v vs d.0 f.1) in
    let k = count-more n p v f.0 l.0 in
    omega (arith, h, k)
  where
    others : (p : ℕ → Bool) (v : ℕ) (xs : List ℕ) → (Among v xs → ⊥) → AllByRecursion (λ x. p x ≡ false) xs
        → AllByRecursion (λ x. or_at p v x ≡ false) xs
    others p v [] n f = tt
    others p v (x ∷ xs) n f =
        (or_at-other p v x (λ e. n (inl (sym e))) ∙ f.0, others p v xs (λ m. n (inr m)) f.1)

pub first-passing : (p : ℕ → Bool) (vs : List ℕ)
    → ((v : ℕ) × Among v vs × (p v ≡ true)) ⊎ AllByRecursion (λ v. p v ≡ false) vs
first-passing p [] = inr tt
first-passing p (v ∷ vs) =
    elim (cases_Bool (p v)) [
      | inl t ↦ inl (v, inl refl, t)
      | inr f ↦ (elim (first-passing p vs) [ inl r ↦ inl (r.0, inr r.1, r.2) | inr k ↦ inr (f, k) ])
    ]

pub overlap-step : (a b : Bool) (x y z n : ℕ) → x + y ≤ n + z
    → cond a (suc x) x + cond b (suc y) y ≤ suc n + cond (a && b) (suc z) z
overlap-step a b x y z n h = grind arith

-- two tests pass together wherever their counts go past n
pub overlap : (n : ℕ) (p q : ℕ → Bool)
    → count_below n p + count_below n q ≤ n + count_below n (λ i. p i && q i)
unfolding count_below
overlap zero p q = omega arith
overlap (suc n) p q = overlap-step (p n) (q n) _ _ _ n (overlap n p q)

pub found-step : (p : ℕ → Bool) (n x : ℕ) → 0 < cond (p n) (suc x) x → (0 < x → (i : ℕ) × (p i ≡ true))
    → (i : ℕ) × (p i ≡ true)
found-step p n x h rest = grind arith

-- where the count is above 0, some number passes
pub found : (n : ℕ) (p : ℕ → Bool) → 0 < count_below n p → (i : ℕ) × (p i ≡ true)
unfolding count_below
found zero p h = absurd (omega arith)
found (suc n) p h = found-step p n (count_below n p) h (found n p)

pub count-not-step : (a : Bool) (x y n : ℕ) → x + y ≡ n → cond a (suc x) x + cond (not a) (suc y) y ≡ suc n
count-not-step a x y n h = grind arith

-- a number passes a test or its opposite
pub count-not : (n : ℕ) (p : ℕ → Bool) → count_below n p + count_below n (λ i. not (p i)) ≡ n
unfolding count_below
count-not zero p = omega arith
count-not (suc n) p = count-not-step (p n) _ _ n (count-not n p)

-- distinct numbers below n that pass are no more than all of those
pub count-listed : (n : ℕ) (p : ℕ → Bool) (xs : List ℕ) → AreDistinct xs → AllByRecursion (λ x. x < n) xs
    → ((x : ℕ) → Among x xs → p x ≡ true) → length xs ≤ count_below n p
count-listed n p xs distinct below pass =
    omega (
      arith,
      count-not n p,
      apart-count n (λ i. not (p i)) xs distinct below
          (AllByRecursion-from (λ x. not (p x) ≡ false) xs (λ x m. not_from_true (p x) (pass x m))),
    )

-- tests that answer alike below the bound have one count
pub count-same : (n : ℕ) (p q : ℕ → Bool) → ((i : ℕ) → i < n → p i ≡ q i) → count_below n p ≡ count_below n q
unfolding count_below
count-same zero p q h = refl
count-same (suc n) p q h =
    let rest : count_below n p ≡ count_below n q = count-same n p q (λ i l. h i (omega (arith, l))) in
    λ k. cond (h n (omega arith) k) (suc (rest k)) (rest k)

mono-step : (a b : Bool) (x y : ℕ) → (a ≡ true → b ≡ true) → x ≤ y → cond a (suc x) x ≤ cond b (suc y) y
mono-step true true x y h l = omega arith
mono-step true false x y h l = cc (h refl)
mono-step false true x y h l = omega arith
mono-step false false x y h l = l

-- where each that passes one test passes the other, the other counts no fewer
pub count-mono : (n : ℕ) (p q : ℕ → Bool) → ((i : ℕ) → i < n → p i ≡ true → q i ≡ true)
    → count_below n p ≤ count_below n q
unfolding count_below
count-mono zero p q h = omega arith
count-mono (suc n) p q h =
    mono-step (p n) (q n) _ _ (h n (omega arith)) (count-mono n p q (λ i l. h i (omega (arith, l))))
