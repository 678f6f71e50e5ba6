-- The correct replicas of a world, which are those of each later one.
use Rattle.ids.specs.Sizes.{Sizes, replicas}
use Rattle.std.specs.Prelude.{◌&&◌, not, slice_index_or}
use Rattle.std.proofs.Common.{ℕ, zero, suc, ◌+◌, ◌<◌, ◌≡◌, Bool, true, false, cond, List, [], ◌∷◌, ◌++◌, length}
use Rattle.std.proofs.Common.{sym, ap, subst, ◌∙◌, refl, arith, inl, inr, length-append}
use Rattle.std.proofs.lemmas.Bool.{cases_lt, lt-ltb}
use Rattle.std.proofs.lemmas.List.{get_or_append_left, get_or_at}
use Rattle.definitions.specs.Events.{happens}
use Rattle.definitions.specs.Keyrings.{is_replica_of}
use Rattle.definitions.specs.Runs.{after}
use Rattle.definitions.specs.Worlds.{World, Happening, is_correct}
use Rattle.recovery.specs.Correct.{correct_below, correct_replicas}
use Rattle.healer.specs.Courses.{HasReplica, AreCorrect}
use Rattle.healer.proofs.Courses.{nothing-behind}

-- ---- later worlds

-- the worlds have the same sizes and faulty parties
record IsMadeAs (w last : World) : Type 0 where
  sizes : last.sizes ≡ w.sizes
  faulty : last.is_faulty ≡ w.is_faulty

made-after : (w : World) (hs : List Happening) → IsMadeAs w (after w hs)
unfolding after happens
made-after w [] = record { sizes = refl; faulty = refl }
made-after w (h ∷ hs) = let r = made-after (happens w h) hs in record { sizes = r.sizes; faulty = r.faulty }

pub same-sizes : (w : World) (hs : List Happening) → (after w hs).sizes ≡ w.sizes
same-sizes w hs = (made-after w hs).sizes

pub same-faulty : (w : World) (hs : List Happening) → (after w hs).is_faulty ≡ w.is_faulty
same-faulty w hs = (made-after w hs).faulty

same-below : (v w : World) → IsMadeAs w v → (n : ℕ) → correct_below v n ≡ correct_below w n
unfolding correct_below
same-below v w m zero = refl
same-below v w m (suc n) = λ i.
    same-below v w m n i ++ cond (is_replica_of (m.sizes i) n && not (m.faulty i n)) (n ∷ []) []

pub same-correct : (w : World) (hs : List Happening) → correct_replicas (after w hs) ≡ correct_replicas w
same-correct w hs =
    let r = made-after w hs in
    ap (λ (z : Sizes). correct_below (after w hs) (replicas z)) r.sizes
    ∙ same-below (after w hs) w r (replicas w.sizes)

pub still-correct : (rs : List ℕ) (w : World) (hs : List Happening) → AreCorrect rs w → AreCorrect rs (after w hs)
still-correct rs w hs c = c ∙ sym (same-correct w hs)

pub still-replica : (r : ℕ) (w : World) (hs : List Happening) → HasReplica r w → HasReplica r (after w hs)
still-replica r w hs l = subst (λ (z : Sizes). r < replicas z) (sym (same-sizes w hs)) l

-- ---- who they are

none-below : (i : ℕ) → i < 0 → ⊥
none-below i l = omega (arith, l)

at-end : (i n : ℕ) (xs : List ℕ) → (length xs < suc i) → i < length (xs ++ n ∷ []) → i ≡ length xs
at-end i n xs l k = let e = length-append xs (n ∷ []) in omega (arith, l, k, e)

below-all : (w : World) (n i d : ℕ) → i < length (correct_below w n) → slice_index_or (correct_below w n) i d < n
unfolding correct_below
below-all w zero i d l = absurd (none-below i l)
below-all w (suc n) i d l = by (is_correct w n) (below-all w n i d) l
  where
    by : (t : Bool) → (i < length (correct_below w n) → slice_index_or (correct_below w n) i d < n)
        → i < length (correct_below w n ++ cond t (n ∷ []) [])
        → slice_index_or (correct_below w n ++ cond t (n ∷ []) []) i d < suc n
    by true rest k = elim (cases_lt i (length (correct_below w n))) [
      | inl m ↦ (
          let h = rest m in
          let e = get_or_append_left (correct_below w n) (n ∷ []) d i m in
          omega (arith, h, e))
      | inr m ↦ (
          let s : i ≡ length (correct_below w n) = at-end i n (correct_below w n) (omega (arith, m)) k in
          let e = get_or_at (correct_below w n) n [] d i (sym s) in
          omega (arith, e))
    ]
    by false rest k =
        let no : correct_below w n ++ [] ≡ correct_below w n = nothing-behind (correct_below w n) in
        let m : i < length (correct_below w n) = subst (λ (l : List ℕ). i < length l) no k in
        let h = rest m in
        let e = ap (λ (l : List ℕ). slice_index_or l i d) no in
        omega (arith, h, e)

-- each is a replica
pub correct-is-replica : (rs : List ℕ) (i d : ℕ) (w : World) → i < length rs → AreCorrect rs w
    → HasReplica (slice_index_or rs i d) w
correct-is-replica rs i d w l c =
    subst (λ (l : List ℕ). slice_index_or l i d < replicas w.sizes) (sym c)
    (below-all w (replicas w.sizes) i d (subst (λ (l : List ℕ). i < length l) c l))

pub item-is-replica : (rs : List ℕ) (i d r : ℕ) (w : World) → i < length rs → r ≡ slice_index_or rs i d
    → AreCorrect rs w → HasReplica r w
item-is-replica rs i d r w l at c = subst (λ (k : ℕ). HasReplica k w) (sym at) (correct-is-replica rs i d w l c)

-- ---- one after the other

-- one more of them, if it isn't faulty
pub below-next : (w : World) (n : ℕ) (t : Bool) (rs : List ℕ) → HasReplica n w → t ≡ not (w.is_faulty n)
    → rs ≡ correct_below w n → rs ++ cond t (n ∷ []) [] ≡ correct_below w (n + 1)
unfolding correct_below
below-next w n t rs l is h =
    ap (λ (xs : List ℕ). xs ++ cond t (n ∷ []) []) h
    ∙ (ap (λ (b : Bool). correct_below w n ++ cond b (n ∷ []) [])
    (is ∙ ap (λ (b : Bool). b && not (w.is_faulty n)) (sym (lt-ltb n (replicas w.sizes) l)))
    ∙ ap (λ (m : ℕ). correct_below w m) (let e : suc n ≡ n + 1 = omega arith in e))

pub below-none : (w : World) → [] ≡ correct_below w 0
unfolding correct_below
below-none w = refl

pub below-whole : (w : World) (n count : ℕ) (rs : List ℕ) → count ≡ replicas w.sizes → n ≡ count
    → rs ≡ correct_below w n → AreCorrect rs w
below-whole w n count rs is e h = h ∙ ap (λ (m : ℕ). correct_below w m) (e ∙ is)
