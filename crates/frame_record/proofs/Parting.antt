-- A list is parted at a place: a test passes before it, and not from there on.
use Rattle.std.proofs.Common.{ℕ, zero, suc, ◌≡◌, ◌≤◌, Bool, true, false, List, [], ◌∷◌, length, take, drop, refl, ap, sym, ◌∙◌, ◌-◌, get_or, arith}
use Rattle.std.proofs.Common.{filter}
use Rattle.std.specs.Bool.{OnTrue}
use Rattle.std.specs.List.{AllWithin}
use Rattle.std.specs.List.Sorted.{IsPartitionPoint}
use Rattle.std.proofs.Common.{ltb, leb}
use Rattle.std.proofs.lemmas.List.{get_or_default}
use Rattle.std.proofs.lemmas.Bool.{lt-ltb, le-ltb, le-leb, lt-leb, ltb-true, ltb-false, leb-true, leb-false}
use Rattle.frame_record.specs.declared.recorded.Recorded.{Recorded}
use Rattle.frame_record.specs.Recording.{AreInOrder, above, from_height, up_to}

pub filter-before : {X : Type 0} (p : X → Bool) (xs : List X) (k : ℕ) → AllWithin (λ y. p y ≡ true) xs 0 k
    → AllWithin (λ y. p y ≡ false) xs k (length xs) → k ≤ length xs → filter p xs ≡ take k xs
filter-before p [] zero passes fails le = refl
filter-before p [] (suc k) passes fails le = absurd (omega (arith, le))
filter-before p (x ∷ xs) zero passes fails le =
    let here : p x ≡ false = fails 0 x (omega arith) (omega arith) in
    rw here (filter-before p xs zero (λ i d l m. absurd (omega (arith, m)))
    (λ i d l m. fails (suc i) d (omega arith) (omega (arith, m))) (omega arith))
filter-before p (x ∷ xs) (suc k) passes fails le =
    let here : p x ≡ true = passes 0 x (omega arith) (omega arith) in
    rw here (ap (λ l. x ∷ l) (filter-before p xs k (λ i d l m. passes (suc i) d (omega arith) (omega (arith, m)))
    (λ i d l m. fails (suc i) d (omega (arith, l)) (omega (arith, m))) (omega (arith, le))))

pub filter-behind : {X : Type 0} (p : X → Bool) (xs : List X) (k : ℕ) → AllWithin (λ y. p y ≡ false) xs 0 k
    → AllWithin (λ y. p y ≡ true) xs k (length xs) → k ≤ length xs → filter p xs ≡ drop k xs
filter-behind p [] zero fails passes le = refl
filter-behind p [] (suc k) fails passes le = absurd (omega (arith, le))
filter-behind p (x ∷ xs) zero fails passes le =
    let here : p x ≡ true = passes 0 x (omega arith) (omega arith) in
    rw here (ap (λ l. x ∷ l) (filter-behind p xs zero (λ i d l m. absurd (omega (arith, m)))
    (λ i d l m. passes (suc i) d (omega arith) (omega (arith, m))) (omega arith)))
filter-behind p (x ∷ xs) (suc k) fails passes le =
    let here : p x ≡ false = fails 0 x (omega arith) (omega arith) in
    rw here (filter-behind p xs k (λ i d l m. fails (suc i) d (omega arith) (omega (arith, m)))
    (λ i d l m. passes (suc i) d (omega (arith, l)) (omega (arith, m))) (omega (arith, le)))

-- the frames from a height on, where those below it are before a place
pub from-place : (height : ℕ) (frames : List Recorded) (k : ℕ)
    → IsPartitionPoint (λ r. ltb r.height height ≡ true) (λ r. ltb r.height height ≡ false) frames k
    → k ≤ length frames → from_height height frames ≡ drop k frames
from-place height frames k point le = filter-behind (λ r. leb height r.height) frames k
    (λ i d l m. lt-leb height _ (ltb-true _ _ (point.0 i d l m)))
    (λ i d l m. le-leb height _ (ltb-false _ _ (point.1 i d l m))) le

-- the frames up to a height and those above it, where the former are before a place
pub up-to-place : (height : ℕ) (frames : List Recorded) (k : ℕ)
    → IsPartitionPoint (λ r. leb r.height height ≡ true) (λ r. leb r.height height ≡ false) frames k
    → k ≤ length frames → up_to height frames ≡ take k frames
up-to-place height frames k point le = filter-before (λ r. leb r.height height) frames k point.0 point.1 le

pub above-place : (height : ℕ) (frames : List Recorded) (k : ℕ)
    → IsPartitionPoint (λ r. leb r.height height ≡ true) (λ r. leb r.height height ≡ false) frames k
    → k ≤ length frames → above height frames ≡ drop k frames
above-place height frames k point le = filter-behind (λ r. ltb height r.height) frames k
    (λ i d l m. le-ltb height _ (leb-true _ _ (point.0 i d l m)))
    (λ i d l m. lt-ltb height _ (leb-false _ _ (point.1 i d l m))) le

-- all are up to a height
pub all-up-to : (height : ℕ) (frames : List Recorded) (k : ℕ) → k ≡ length frames
    → AllWithin (λ r. r.height ≤ height) frames 0 (length frames)
    → IsPartitionPoint (λ r. leb r.height height ≡ true) (λ r. leb r.height height ≡ false) frames k
all-up-to height frames k e all =
    (λ i d l m. le-leb _ height (all i d l (omega (arith, m, e))), λ i d l m. absurd (omega (arith, l, m, e)))

on-true : (b : Bool) (P : Type 0) → (b ≡ true → P) → OnTrue b P
on-true true P f = f refl
on-true false P f = tt

-- where the last one isn't above a height, none is
pub highest-last : (height : ℕ) (frames : List Recorded) (n : ℕ) (last : Recorded) (b : Bool) → AreInOrder frames
    → n ≡ length frames → last ≡ get_or frames (n - 1) last → b ≡ leb last.height height
    → OnTrue b (AllWithin (λ r. r.height ≤ height) frames 0 (length frames))
highest-last height frames n last b ordered len at is = on-true b (AllWithin (λ r. r.height ≤ height) frames 0 (length frames))
    (λ e k d l m.
    let top = ordered k (n - 1) d (omega (arith, m, len)) (omega (arith, m, len)) in
    let same = get_or_default frames (n - 1) d last (omega (arith, m, len)) in
    let low = leb-true last.height height (sym is ∙ e) in
    omega (arith, top, low, ap (λ (r : Recorded). r.height) same, ap (λ (r : Recorded). r.height) at))
