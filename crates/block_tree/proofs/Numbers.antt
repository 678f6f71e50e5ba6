-- Stored blocks by their numbers.
use Rattle.std.proofs.Common.{ℕ, suc, ◌≡◌, ◌<◌, ◌≤◌, Bool, true, false, cond, List, [], ◌∷◌, length, refl}
use Rattle.std.proofs.Common.{sym}
use Rattle.std.proofs.Common.{ap, ◌∙◌, arith, inl, inr, Some, None}
use Rattle.std.specs.Str.{bytes_eq}
use Rattle.std.proofs.lemmas.Bool.{cases_lt, cond-true, cond-false, eq-eqb, ne_eqb}
use Rattle.std.proofs.lemmas.Option.{same_Some}
use Rattle.definitions.specs.Bytes.{Bytes}
use Rattle.definitions.specs.Digests.{digest_of}
use Rattle.definitions.specs.Trees.{Stored, blocks}
use Rattle.block_tree.specs.Finding.{stored_in}
use Rattle.block_tree.specs.Numbers.{stored_number, nth_stored}

pub blocks-count : (stored : List Stored) → length (blocks stored) ≡ suc (length stored)
blocks-count [] = refl
blocks-count (s ∷ older) = ap suc (blocks-count older)

-- the newest block has the last number, and the others keep theirs
pub nth-newest : (s : Stored) (older : List Stored) (k : ℕ) → k ≡ suc (length older)
    → nth_stored (s ∷ older) k ≡ Some s
unfolding nth_stored
nth-newest s older k e = cond-true _ _ _ (eq-eqb k (suc (length older)) e)

pub nth-older : (s : Stored) (older : List Stored) (k : ℕ) → k ≤ length older
    → nth_stored (s ∷ older) k ≡ nth_stored older k
unfolding nth_stored
nth-older s older k le = cond-false _ _ _ (ne_eqb k (suc (length older)) (λ e. omega (arith, e, le)))

pub nth-some : (all : List Stored) (k : ℕ) → 0 < k → k ≤ length all → (s : Stored) × (nth_stored all k ≡ Some
    s)
nth-some [] k above known = absurd (omega (arith, above, known))
nth-some (s ∷ older) k above known =
    elim (cases_lt (length older) k) [
      | inl lt ↦ (s, nth-newest s older k (omega (arith, lt, known)))
      | inr le ↦ (let r = nth-some older k above le in (r.0, nth-older s older k le ∙ r.1))
    ]

nth_step : (b : Bool) (s : Stored) (older : List Stored) (k : ℕ) (x : Stored) → (k ≡ suc (length older) → ⊥)
    → nth_stored (s ∷ older) k ≡ Some x → nth_stored older k ≡ Some x
unfolding nth_stored
nth_step b s older k x n e = sym (cond-false _ _ _ (ne_eqb k (suc (length older)) n)) ∙ e

pub nth-within : (all : List Stored) (k : ℕ) (s : Stored) → nth_stored all k ≡ Some s → (0 < k) × (k ≤ length
    all)
unfolding nth_stored
nth-within [] k s e = absurd (cc)
nth-within (x ∷ older) k s e =
    elim (cases_lt (length older) k) [
      | inl lt ↦
          (elim (cases_lt (suc (length older)) k) [
            | inl far ↦
                let r = nth-within older k s
                (nth_step true x older k s (λ i. omega (arith, i, far)) e) in
                let high = r.1 in absurd (omega (arith, high, lt))
            | inr le ↦ (omega (arith, lt), omega (arith, le))
          ])
      | inr le ↦
          (let r = nth-within older k s (nth_step true x older k s (λ i. omega (arith, i, le)) e) in
          let low = r.0 in (low, omega (arith, le)))
    ]

-- ---- the number of a digest

-- is that of the newest block of it
pub number-is : (d : Bytes) (all : List Stored) (k : ℕ) → stored_number d all ≡ Some k
    → (s : Stored) × (nth_stored all k ≡ Some s) × (stored_in d all ≡ Some s)
unfolding stored_number
number-is d [] k e = absurd (cc)
number-is d (s ∷ older) k e = go (bytes_eq (digest_of s.branch) d) refl e (number-is d older k)
  where
    go : (t : Bool) → bytes_eq (digest_of s.branch) d ≡ t
        → cond t (Some (suc (length older))) (stored_number d older) ≡ Some k
        → (stored_number d older ≡ Some k
        → (x : Stored) × (nth_stored older k ≡ Some x) × (stored_in d older ≡ Some x))
        → (x : Stored) × (nth_stored (s ∷ older) k ≡ Some x) × (stored_in d (s ∷ older) ≡ Some x)
    go true i j rest =
        (s, nth-newest s older k (sym (same_Some _ _ j)), cond-true _ _ _ i)
    go false i j rest =
        let r = rest j in
        let within = nth-within older k r.0 r.1 in
        (r.0, nth-older s older k within.1 ∙ r.1, cond-false _ _ _ i ∙ r.2)

pub number-none : (d : Bytes) (all : List Stored) → stored_number d all ≡ None → stored_in d all ≡ None
unfolding stored_number
number-none d [] e = refl
number-none d (s ∷ older) e = go (bytes_eq (digest_of s.branch) d) e (number-none d older)
  where
    go : (t : Bool) → cond t (Some (suc (length older))) (stored_number d older) ≡ None
        → (stored_number d older ≡ None → stored_in d older ≡ None)
        → cond t (Some s) (stored_in d older) ≡ None
    go true i rest = absurd (cc)
    go false i rest = rest i
