-- The words of a schedule, written one after the other.
use Rattle.std.proofs.Common.{◌≡◌, ◌≢◌, ℕ, zero, suc, refl, ◌+◌, ◌-◌, ◌<◌, ◌≤◌, List, [], length, slice_index, slice_set, inl, inr, sym, ap, ◌∙◌, arith}
use Rattle.std.proofs.lemmas.Bool.{cases_lt}
use Rattle.std.proofs.lemmas.Nat.{from_be_bytes-to_be_bytes_4}
use Rattle.std.proofs.lemmas.Simd.{Each1-get_or}
use Rattle.std.specs.Int.{w32, from_be_bytes, to_be_bytes}
use lib.Lanes.{Each1}
use mir.Val.{Fits}
use Rattle.std.proofs.lemmas.List.{get_or-set_same, get_or-set_other}
use Rattle.sha2.specs.Sha256.{add32, schedule, small_sigma0, small_sigma1}
use Rattle.sha2.proofs.Schedule256.{slice_index-schedule_next}
use Rattle.lanes.specs.Lanes.{at, state_lane}

pub at-set_same : (w : List (List ℕ)) (t j : ℕ) (v : List ℕ) → t < length w → at (slice_set w t v) t j ≡ slice_index v j
at-set_same w t j v lt = ap (λ (x : List ℕ). slice_index x j) (get_or-set_same w t v [] lt)

pub at-set_other : (w : List (List ℕ)) (t i j : ℕ) (v : List ℕ) → i ≢ t → at (slice_set w t v) i j ≡ at w i j
at-set_other w t i j v ne = ap (λ (x : List ℕ). slice_index x j) (get_or-set_other w t i v [] ne)

-- word t, from those before it
pub word_from : (b : List ℕ) (t a2 a7 a15 a16 : ℕ) → 16 ≤ t → t < 64
    → a2 ≡ slice_index (schedule b 48) (t - 2) → a7 ≡ slice_index (schedule b 48) (t - 7)
    → a15 ≡ slice_index (schedule b 48) (t - 15) → a16 ≡ slice_index (schedule b 48) (t - 16)
    → add32 (add32 (add32 (small_sigma1 a2) a7) (small_sigma0 a15)) a16 ≡ slice_index (schedule b 48) t
word_from b t a2 a7 a15 a16 low high e2 e7 e15 e16 =
    rw (e2, e7, e15, e16) (sym (slice_index-schedule_next b 48 t low (omega arith)))

-- one more vector, as a step of a loop over i: what holds of the elements below
pub at-set_more : (w : List (List ℕ)) (i j : ℕ) (v : List ℕ) (x : ℕ → ℕ) → i < length w → ((k : ℕ) → k < i → at w k j ≡ x k)
    → slice_index v j ≡ x i → (k : ℕ) → k < i + 1 → at (slice_set w i v) k j ≡ x k
at-set_more w i j v x fits before here k low = elim (cases_lt k i) [
  | inl below ↦ at-set_other w i k j v (omega arith) ∙ before k below
  | inr above ↦
      let e : i ≡ k = omega arith in
      rw (← e) (at-set_same w i j v fits ∙ here)
]

pub slice_index-state_lane : (vs : List (List ℕ)) (j i : ℕ) → i < 8 → at vs i j ≡ slice_index (state_lane vs j) i
slice_index-state_lane vs j zero lt = refl
slice_index-state_lane vs j (suc zero) lt = refl
slice_index-state_lane vs j (suc (suc zero)) lt = refl
slice_index-state_lane vs j (suc (suc (suc zero))) lt = refl
slice_index-state_lane vs j (suc (suc (suc (suc zero)))) lt = refl
slice_index-state_lane vs j (suc (suc (suc (suc (suc zero))))) lt = refl
slice_index-state_lane vs j (suc (suc (suc (suc (suc (suc zero)))))) lt = refl
slice_index-state_lane vs j (suc (suc (suc (suc (suc (suc (suc zero))))))) lt = refl
slice_index-state_lane vs j (suc (suc (suc (suc (suc (suc (suc (suc i)))))))) lt = absurd (omega arith)

-- what holds at each of sixteen places
pub sixteen : (P : ℕ → Type 0) → P 0 → P 1 → P 2 → P 3 → P 4 → P 5 → P 6 → P 7 → P 8 → P 9 → P 10 → P 11 → P 12 → P 13 → P 14 → P 15 → (i : ℕ) → i < 16 → P i
sixteen P a b c d e f g h k l m n o p q r zero lt = a
sixteen P a b c d e f g h k l m n o p q r (suc zero) lt = b
sixteen P a b c d e f g h k l m n o p q r (suc (suc zero)) lt = c
sixteen P a b c d e f g h k l m n o p q r (suc (suc (suc zero))) lt = d
sixteen P a b c d e f g h k l m n o p q r (suc (suc (suc (suc zero)))) lt = e
sixteen P a b c d e f g h k l m n o p q r (suc (suc (suc (suc (suc zero))))) lt = f
sixteen P a b c d e f g h k l m n o p q r (suc (suc (suc (suc (suc (suc zero)))))) lt = g
sixteen P a b c d e f g h k l m n o p q r (suc (suc (suc (suc (suc (suc (suc zero))))))) lt = h
sixteen P a b c d e f g h k l m n o p q r (suc (suc (suc (suc (suc (suc (suc (suc zero)))))))) lt = k
sixteen P a b c d e f g h k l m n o p q r (suc (suc (suc (suc (suc (suc (suc (suc (suc zero))))))))) lt = l
sixteen P a b c d e f g h k l m n o p q r (suc (suc (suc (suc (suc (suc (suc (suc (suc (suc zero)))))))))) lt = m
sixteen P a b c d e f g h k l m n o p q r (suc (suc (suc (suc (suc (suc (suc (suc (suc (suc (suc zero))))))))))) lt = n
sixteen P a b c d e f g h k l m n o p q r (suc (suc (suc (suc (suc (suc (suc (suc (suc (suc (suc (suc zero)))))))))))) lt = o
sixteen P a b c d e f g h k l m n o p q r (suc (suc (suc (suc (suc (suc (suc (suc (suc (suc (suc (suc (suc zero))))))))))))) lt = p
sixteen P a b c d e f g h k l m n o p q r (suc (suc (suc (suc (suc (suc (suc (suc (suc (suc (suc (suc (suc (suc zero)))))))))))))) lt = q
sixteen P a b c d e f g h k l m n o p q r (suc (suc (suc (suc (suc (suc (suc (suc (suc (suc (suc (suc (suc (suc (suc zero))))))))))))))) lt = r
sixteen P a b c d e f g h k l m n o p q r (suc (suc (suc (suc (suc (suc (suc (suc (suc (suc (suc (suc (suc (suc (suc (suc i)))))))))))))))) lt = absurd (omega arith)

-- a lane that is put together from its bytes again
pub word_again : (v : List ℕ) (j : ℕ) → j < 4 → (length v ≡ 4) × Each1 (Fits w32) v → slice_index v j ≡ from_be_bytes w32 (to_be_bytes w32 (slice_index v j))
word_again v j lt fits =
    let within : j < length v = omega (arith, fits.0) in
    let small : Fits w32 (slice_index v j) = Each1-get_or (Fits w32) v j 0 within fits.1 in
    sym (from_be_bytes-to_be_bytes_4 (slice_index v j) small.fits)
