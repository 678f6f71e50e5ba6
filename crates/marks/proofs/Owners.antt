-- The eyes of the words, one after another.
use Rattle.std.proofs.Common.{◌≡◌, ℕ, zero, suc, ◌+◌, ◌-◌, ◌<◌, List, [], ◌∷◌, ◌++◌, map, take, length}
use Rattle.std.proofs.Common.{refl, sym, subst, ap, ◌∙◌, arith}
use Rattle.std.proofs.lemmas.List.FromFn.{take-map-range_with_len, length-map-range_with_len}
use Rattle.std.specs.List.{range_with_len}
use Rattle.atomic_table.specs.Seated.{TableId}
use Rattle.marks.specs.Eyes.{EyeState, first_eye, first_eyes}

-- these are the owners of the words from k on
abbrev pub Owners : TableId → ℕ → List EyeState → Type 0
Owners z k [] = k ≡ z.words
Owners z k (e ∷ es) = (e ≡ first_eye z k) × (k < z.words) × Owners z (k + 1) es

pub owners_from : (z : TableId) (n k : ℕ) → k + n ≡ z.words
    → Owners z k (map (first_eye z) (range_with_len k n))
owners_from z zero k e = omega (arith, e)
owners_from z (suc n) k e = (refl, omega (arith, e), owners_from z n (k + 1) (omega (arith, e)))

pub owners_next : (z : TableId) (k : ℕ) (all es : List EyeState) (e : EyeState) → all ≡ e ∷ es
    → Owners z k all → (e ≡ first_eye z k) × (k < z.words) × Owners z (k + 1) es
owners_next z k all es e is owners = subst (Owners z k) is owners

-- without the last, which owns none
pub all_owners : (z : TableId) (all owners : List EyeState) (n : ℕ) → all ≡ first_eyes z → n ≡ length all
    → owners ≡ take (n - 1) all → owners ≡ map (first_eye z) (range_with_len 0 z.words)
all_owners z all owners n made len rest =
    let less : n - 1 ≡ z.words =
    omega (arith, len, ap length made ∙ length-map-range_with_len (first_eye z) 0 (z.words + 1)) in
    rest ∙ (λ i. take (less i) (made i))
    ∙ take-map-range_with_len (first_eye z) 0 (z.words + 1) z.words (omega arith)

-- these are the first eyes from k on
abbrev FirstEyes : TableId → ℕ → List EyeState → Type 0
FirstEyes z k [] = k ≡ z.words + 1
FirstEyes z k (e ∷ es) = (e ≡ first_eye z k) × FirstEyes z (k + 1) es

eyes_from : (z : TableId) (n k : ℕ) → k + n ≡ z.words + 1
    → FirstEyes z k (map (first_eye z) (range_with_len k n))
eyes_from z zero k end = omega (arith, end)
eyes_from z (suc n) k end = (refl, eyes_from z n (k + 1) (omega (arith, end)))

last_from : (z : TableId) (k : ℕ) (rest : List EyeState) (e : EyeState)
    → FirstEyes z k (rest ++ e ∷ []) → e ≡ first_eye z z.words
last_from z k [] e eyes =
    let last : k ≡ z.words = omega (arith, eyes.1) in
    eyes.0 ∙ (λ i. first_eye z (last i))
last_from z k (x ∷ rest) e eyes = last_from z (k + 1) rest e eyes.1

-- the last is the one that owns none
pub last_eye : (z : TableId) (all rest : List EyeState) (e : EyeState) → all ≡ first_eyes z
    → all ≡ rest ++ e ∷ [] → e ≡ first_eye z z.words
last_eye z all rest e made items =
    let eyes : FirstEyes z 0 all = subst (FirstEyes z 0) (sym made) (eyes_from z (z.words + 1) 0 (omega arith)) in
    last_from z 0 rest e (subst (FirstEyes z 0) items eyes)
