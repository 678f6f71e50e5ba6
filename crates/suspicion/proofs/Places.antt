-- Sets of which one place was told.
use Rattle.std.proofs.Common.{◌≡◌, ◌<◌, ◌+◌, ◌∙◌, ℕ, Bool, List, false, inl, inr, arith, set, length}
use Rattle.std.proofs.lemmas.Bool.{cases_lt}
use Rattle.std.proofs.lemmas.List.{get_or-set_other, get_or-set_same}
use Rattle.std.specs.Prelude.{get_or}

-- all places below the next are as they should be
pub one_place_more : (all : List Bool) (k : ℕ) (f : ℕ → Bool) → k < length all
    → ((r : ℕ) → r < k → get_or all r false ≡ f r) → (r : ℕ) → r < k + 1 → get_or (set all k (f k)) r false ≡ f r
one_place_more all k f inside below r low = elim (cases_lt r k) [
  | inl lower ↦ get_or-set_other all k r (f k) false (omega arith) ∙ below r lower
  | inr above ↦
      let e : k ≡ r = omega arith in
      rw (← e) (get_or-set_same all k (f k) false inside)
]
