-- The correct replicas of a world as a list, and the first of the highest lock among them.
use Rattle.std.proofs.Common.{ℕ, zero, suc, ◌≡◌, ◌<◌, ◌≤◌, Bool, true, false, cond, List, [], ◌∷◌, length, refl}
use Rattle.std.proofs.Common.{sym, ap, subst, ◌∙◌, arith, inl, inr, nat_lt}
use Rattle.std.proofs.lemmas.Bool.{cond_both, cond-true, cases_eq, and_parts, ltb-true, ltb-false}
use Rattle.ids.specs.Sizes.{replicas}
use Rattle.definitions.specs.Lists.{Among}
use Rattle.definitions.specs.Worlds.{World, is_correct}
use Rattle.definitions.proofs.Lists.{Among-after, Among-before, Among-either}
use Rattle.recovery.specs.Correct.{lock_of, correct_below, correct_replicas}
use Rattle.recovery.specs.Healing.{highest_locked}

-- those of the list are correct
pub among-correct : (w : World) (n r : ℕ) → Among r (correct_below w n) → is_correct w r ≡ true
unfolding correct_below
among-correct w zero r m = absurd m
among-correct w (suc n) r m =
    elim (Among-either r (correct_below w n) (cond (is_correct w n) (n ∷ []) []) m)
    [ inl k ↦ among-correct w n r k | inr k ↦ by (is_correct w n) refl k ]
  where
    by : (t : Bool) → is_correct w n ≡ t → Among r (cond t (n ∷ []) []) → is_correct w r ≡ true
    by true e (inl i) = ap (is_correct w) i ∙ e
    by true e (inr k) = absurd k
    by false e k = absurd k

-- and each correct one below the bound stands there
pub correct-among : (w : World) (n r : ℕ) → r < n → is_correct w r ≡ true → Among r (correct_below w n)
unfolding correct_below
correct-among w zero r l c = absurd (omega (arith, l))
correct-among w (suc n) r l c =
    elim (cases_eq r n) [
      | inl e ↦ Among-after r (correct_below w n) (cond (is_correct w n) (n ∷ []) [])
          (subst (λ (xs : List ℕ). Among r xs)
          (sym (cond-true (is_correct w n) (n ∷ []) [] (ap (is_correct w) (sym e) ∙ c))) (inl e))
      | inr d ↦ Among-before r (correct_below w n) (cond (is_correct w n) (n ∷ []) [])
          (correct-among w n r (omega (arith, l, d)) c)
    ]

-- so each correct replica does
pub correct-listed : (w : World) (r : ℕ) → is_correct w r ≡ true → Among r (correct_replicas w)
correct-listed w r c =
    correct-among w (replicas w.sizes) r (ltb-true r (replicas w.sizes) (and_parts _ _ c).0) c

-- the first of the highest lock is one of them, and no other lock is higher
pub highest-locked : (w : World) (r : ℕ) (rs : List ℕ)
    → Among (highest_locked w (r ∷ rs)) (r ∷ rs)
    × ((s : ℕ) → Among s (r ∷ rs) → length (lock_of w s) ≤ length (lock_of w (highest_locked w (r ∷ rs))))
unfolding highest_locked
highest-locked w r [] = (
  inl refl,
  λ s m. elim m [ inl e ↦ (let k = ap (λ (z : ℕ). length (lock_of w z)) e in omega (arith, k)) | inr k ↦ absurd k ],
)
highest-locked w r (s ∷ rs) =
    let rest = highest-locked w s rs in
    let best : ℕ = highest_locked w (s ∷ rs) in
    cond_both (nat_lt (length (lock_of w r)) (length (lock_of w best))) best r
    (λ (z : ℕ). Among z (r ∷ s ∷ rs)
    × ((t : ℕ) → Among t (r ∷ s ∷ rs) → length (lock_of w t) ≤ length (lock_of w z)))
    (λ t. (
      inr rest.0,
      λ u m. elim m [
        | inl e ↦ (let k = ap (λ (z : ℕ). length (lock_of w z)) e in let h = ltb-true _ _ t in omega (arith, k, h))
        | inr k ↦ rest.1 u k
      ],
    ))
    (λ f. (
      inl refl,
      λ u m. elim m [
        | inl e ↦ (let k = ap (λ (z : ℕ). length (lock_of w z)) e in omega (arith, k))
        | inr k ↦ (let h = rest.1 u k in let g = ltb-false _ _ f in omega (arith, h, g))
      ],
    ))
