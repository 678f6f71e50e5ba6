-- A batch is a beginning, of no more bytes than it may have.
use Rattle.std.proofs.Common.{ℕ, ◌≡◌, ◌≤◌, ◌<◌, ◌+◌, ◌-◌, max, Bool, true, false, cond, List, [], ◌∷◌, ◌++◌, length, refl, ap, arith}
use Rattle.std.proofs.Common.{leb, sum_by}
use Rattle.std.proofs.lemmas.Bool.{le-leb, leb-true}
use Rattle.std.proofs.lemmas.List.Sums.{sum_by-cons}
use Rattle.definitions.specs.Bytes.{Bytes}
use Rattle.frame_record.specs.Recording.{batch, room_for, within}
use Rattle.frame_record.specs.Laws.{IsABeginning}

abbrev IsBeginning : List Bytes → List Bytes → Type 0
IsBeginning some all = (rest : List Bytes) × (some ++ rest ≡ all)

beginning-cond : (b : Bool) (f : Bytes) (some fs : List Bytes) → IsBeginning some fs
    → IsBeginning (cond b (f ∷ some) []) (f ∷ fs)
beginning-cond true f some fs h = (h.0, ap (λ l. f ∷ l) h.1)
beginning-cond false f some fs h = (f ∷ fs, refl)

beginning : (left : ℕ) (fs : List Bytes) → IsBeginning (within left fs) fs
beginning left [] = ([], refl)
beginning left (f ∷ fs) =
    beginning-cond (leb (length f) left) f (within (left - length f) fs) fs (beginning (left - length f) fs)

abbrev size : List Bytes → ℕ
size fs = sum_by (λ f. length f) fs

size-cond : (b : Bool) (left : ℕ) (f : Bytes) (some : List Bytes) → leb (length f) left ≡ b → size some ≤ left - length f
    → size (cond b (f ∷ some) []) ≤ left
size-cond true left f some e h =
    let parts : size (f ∷ some) ≡ length f + size some = sum_by-cons (λ f. length f) f some in
    let fits : size (f ∷ some) ≤ left = omega (arith, parts, h, leb-true (length f) left e) in
    fits
size-cond false left f some e h = let none : 0 ≤ left = omega arith in none

few : (left : ℕ) (fs : List Bytes) → size (within left fs) ≤ left
few left [] = omega arith
few left (f ∷ fs) =
    size-cond (leb (length f) left) left f (within (left - length f) fs) refl (few (left - length f) fs)

some : (most : ℕ) (fs : List Bytes) → 0 < length fs → 0 < length (batch most fs)
some most [] l = l
some most (f ∷ fs) l = let fits = le-leb (length f) (max most (length f)) (omega arith) in rw fits (omega arith)

pub is-a-beginning : IsABeginning
is-a-beginning most fs =
    let b = beginning (room_for most fs) fs in
    (b.0, b.1, few (room_for most fs) fs, some most fs)
