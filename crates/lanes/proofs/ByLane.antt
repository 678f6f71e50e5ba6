-- An operation on vectors is the same operation in each lane.
use Rattle.std.proofs.Common.{◌≡◌, ℕ, ◌-◌, ◌*◌, ◌/◌, ◌%◌, ◌^◌, ◌<◌, bit_or, List, [], ◌∷◌, length, map, slice_index, refl, ap, ap₂, ◌∙◌, arith, zero, suc}
use Rattle.std.specs.Int.{w32, rotate_right}
use Rattle.sha2.specs.Sha256.{add32}
use Rattle.std.proofs.lemmas.List.{get_or-map, length-map}
use Rattle.std.proofs.lemmas.Simd.{get_or-zip2, length-zip2}
use lib.Lanes.{zip2}
use Rattle.lanes.specs.Lanes.{HasLane}

-- a vector has what it holds
pub own : {v : List ℕ} (j : ℕ) → length v ≡ 4 → HasLane v j (slice_index v j)
own j long = record { long = long; is = refl }

pub both : (f : ℕ → ℕ → ℕ) {v w : List ℕ} {j x y : ℕ} → j < 4 → HasLane v j x → HasLane w j y → HasLane (zip2 f v w) j (f x y)
both f {v = v} {w = w} {j = j} lt p q =
    let lp : length v ≡ 4 = p.long in
    let lq : length w ≡ 4 = q.long in record {
      long = length-zip2 f v w (omega arith) ∙ lp;
      is = get_or-zip2 f v w j 0 0 0 (omega arith) (omega arith) ∙ ap₂ f p.is q.is;
    }

pub each : (f : ℕ → ℕ) {v : List ℕ} {j x : ℕ} → j < 4 → HasLane v j x → HasLane (map f v) j (f x)
each f {v = v} {j = j} lt p =
    let lp : length v ≡ 4 = p.long in record {
      long = length-map v f ∙ lp;
      is = get_or-map f v j 0 0 (omega arith) ∙ ap f p.is;
    }

-- the same number in each lane
pub splat : (x j : ℕ) → j < 4 → HasLane (x ∷ x ∷ x ∷ x ∷ []) j x
splat x zero lt = record { long = refl; is = refl }
splat x (suc zero) lt = record { long = refl; is = refl }
splat x (suc (suc zero)) lt = record { long = refl; is = refl }
splat x (suc (suc (suc zero))) lt = record { long = refl; is = refl }
splat x (suc (suc (suc (suc j)))) lt = absurd (omega arith)

-- the same, spelled another way
pub same : {v : List ℕ} {j x y : ℕ} → HasLane v j x → x ≡ y → HasLane v j y
same p e = record { long = p.long; is = p.is ∙ e }

pub rotation : (x by : ℕ) → 0 < by → by < 32 → bit_or (x / 2 ^ by) (x * 2 ^ (32 - by) % 2 ^ 32) ≡ rotate_right w32 x by
rotation x by low high =
    let e : by % 32 ≡ by = omega arith in
    let f : (32 - by) % 32 ≡ 32 - by = omega arith in
    rw (e, f) refl

-- K t and W t may be added to each other first
pub keyed : (x k w kw : ℕ) → kw ≡ add32 k w → add32 x kw ≡ add32 (add32 x k) w
keyed x k w kw e = omega arith
