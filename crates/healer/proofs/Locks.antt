-- Who leads, by its lock.
use Rattle.ids.specs.Sizes.{replicas}
use Rattle.std.specs.Prelude.{slice_index_or, nat_lt}
use Rattle.std.proofs.Common.{ℕ, suc, ◌+◌, ◌-◌, ◌<◌, ◌≤◌, ◌≡◌, Bool, true, false, cond, List, [], ◌∷◌, length, drop}
use Rattle.std.proofs.Common.{slice_get, Some, None, drop-cons, sym, ap, subst, ◌∙◌, refl, arith, length-drop}
use Rattle.std.proofs.lemmas.Bool.{cond-true, cond-false, lt-ltb, le-ltb}
use Rattle.std.proofs.lemmas.List.{drop_all, get_or-drop}
use Rattle.std.proofs.lemmas.Option.{slice_get_within, get_or_from_slice_get, slice_get-get_or}
use Rattle.definitions.specs.Worlds.{World}
use Rattle.recovery.specs.Correct.{lock_of}
use Rattle.recovery.specs.Healing.{highest_locked}
use Rattle.healer.specs.Courses.{HasReplica, AreCorrect}
use Rattle.healer.specs.Locks.{higher_locked}
use Rattle.healer.proofs.Members.{correct-is-replica, item-is-replica}

pub locked-last : (w : World) (r : ℕ) → highest_locked w (r ∷ []) ≡ r
unfolding highest_locked
locked-last w r = refl

pub locked-none : (w : World) → highest_locked w [] ≡ 0
unfolding highest_locked
locked-none w = refl

locked-more : (w : World) (r : ℕ) (rs : List ℕ) → 0 < length rs
    → highest_locked w (r ∷ rs) ≡ higher_locked w r (highest_locked w rs)
unfolding highest_locked
locked-more w r [] l = absurd (omega (arith, l))
locked-more w r (s ∷ rs) l = refl

-- from one place on
pub locked-next : (w : World) (rs : List ℕ) (j d r best : ℕ) → suc j < length rs → r ≡ slice_index_or rs j d
    → best ≡ highest_locked w (drop (suc j) rs) → higher_locked w r best ≡ highest_locked w (drop j rs)
locked-next w rs j d r best l at h =
    let n = length-drop (suc j) rs in
    ap (λ (x : ℕ). higher_locked w x best) at
    ∙ (ap (λ (x : ℕ). higher_locked w (slice_index_or rs j d) x) h
    ∙ sym (ap (λ (xs : List ℕ). highest_locked w xs) (drop-cons rs j d (omega (arith, l)))
    ∙ locked-more w (slice_index_or rs j d) (drop (suc j) rs) (omega (arith, n, l))))

-- ---- of two

pub higher-other : (w : World) (first other p q : ℕ) → p ≡ length (lock_of w first) → q ≡ length (lock_of w other) → p < q
    → other ≡ higher_locked w first other
higher-other w first other p q e f l =
    sym (cond-true (nat_lt (length (lock_of w first)) (length (lock_of w other))) other first
    (lt-ltb (length (lock_of w first)) (length (lock_of w other)) (omega (arith, e, f, l))))

pub higher-first : (w : World) (first other p q : ℕ) → p ≡ length (lock_of w first) → q ≡ length (lock_of w other) → q ≤ p
    → first ≡ higher_locked w first other
higher-first w first other p q e f l =
    sym (cond-false (nat_lt (length (lock_of w first)) (length (lock_of w other))) other first
    (le-ltb (length (lock_of w first)) (length (lock_of w other)) (omega (arith, e, f, l))))

-- ---- of a row

-- it is one of them
locked-below : (w : World) (rs : List ℕ) (n : ℕ) → 0 < n
    → ((i : ℕ) → i < length rs → slice_index_or rs i 0 < n) → highest_locked w rs < n
locked-below w [] n z h = subst (λ (k : ℕ). k < n) (sym (locked-none w)) z
locked-below w (r ∷ rs) n z h = by rs (locked-below w rs n z (λ i l. h (suc i) (omega (arith, l)))) refl
  where
    either : (t : Bool) → highest_locked w rs < n → r < n → cond t (highest_locked w rs) r < n
    either true a b = a
    either false a b = b

    by : (ss : List ℕ) → highest_locked w rs < n → ss ≡ rs → highest_locked w (r ∷ rs) < n
    by [] k e =
        subst (λ (xs : List ℕ). highest_locked w (r ∷ xs) < n) e
        (subst (λ (k : ℕ). k < n) (sym (locked-last w r)) (h 0 (omega arith)))
    by (s ∷ ss) k e =
        subst (λ (m : ℕ). m < n)
        (sym (locked-more w r rs (subst (λ (xs : List ℕ). 0 < length xs) e (omega arith))))
        (either (nat_lt (length (lock_of w r)) (length (lock_of w (highest_locked w rs)))) k (h 0 (omega arith)))

pub leader-is-replica : (rs : List ℕ) (l : ℕ) (w : World) → AreCorrect rs w → l ≡ highest_locked w rs → HasReplica l w
leader-is-replica rs l w x e =
    subst (λ (k : ℕ). k < replicas w.sizes) (sym e)
    (locked-below w rs (replicas w.sizes) (omega arith) (λ i m. correct-is-replica rs i 0 w m x))

-- the last one
pub locked-begins : (w : World) (rs : List ℕ) (last : ℕ) → Some last ≡ slice_get rs (length rs - 1)
    → last ≡ highest_locked w (drop (length rs - 1) rs)
locked-begins w rs last h =
    let j : ℕ = length rs - 1 in
    let l : j < length rs = slice_get_within rs j last (sym h) in
    sym (ap (λ (xs : List ℕ). highest_locked w xs)
    (drop-cons rs j last l ∙ (ap (λ (x : ℕ). x ∷ drop (suc j) rs) (get_or_from_slice_get rs j last last (sym h))
    ∙ ap (λ (xs : List ℕ). last ∷ xs) (drop_all (suc j) rs (omega (arith, l)))))
    ∙ locked-last w last)

pub locked-nobody : (w : World) (rs : List ℕ) → None ≡ slice_get rs (length rs - 1) → 0 ≡ highest_locked w rs
locked-nobody w [] h = sym (locked-none w)
locked-nobody w (r ∷ rs) h =
    let e = slice_get-get_or (r ∷ rs) (length (r ∷ rs) - 1) 0 (omega arith) in absurd (apart _ (h ∙ e))
  where
    apart : (x : ℕ) → None ≡ Some x → ⊥
    apart x k = cc

-- one more of them, from the last on
pub locked-further : (w : World) (rs : List ℕ) (behind r best found : ℕ) → AreCorrect rs w → 1 ≤ behind
    → behind < length rs → r ≡ slice_index_or rs ((length rs - 1) - behind) r
    → best ≡ highest_locked w (drop (length rs - behind) rs)
    → (HasReplica r w × HasReplica best w → found ≡ higher_locked w r best)
    → found ≡ highest_locked w (drop (length rs - (behind + 1)) rs)
locked-further w rs behind r best found own m l at h f =
    let j : ℕ = (length rs - 1) - behind in
    let e : suc j ≡ length rs - behind = omega (arith, m, l) in
    let k : j ≡ length rs - (behind + 1) = omega (arith, m, l) in
    let here : HasReplica r w = item-is-replica rs j r r w (omega (arith, l)) at own in
    let there : HasReplica best w =
    subst (λ (x : ℕ). x < replicas w.sizes) (sym h)
    (locked-below w (drop (length rs - behind) rs) (replicas w.sizes) (omega arith) (λ i n.
    let d = length-drop (length rs - behind) rs in
    subst (λ (x : ℕ). x < replicas w.sizes) (sym (get_or-drop (length rs - behind) rs i 0))
    (correct-is-replica rs ((length rs - behind) + i) 0 w (omega (arith, n, d, m, l)) own))) in
    f (here, there)
    ∙ (locked-next w rs j r r best (omega (arith, e, m, l)) at (h ∙ ap (λ (n : ℕ). highest_locked w (drop n rs)) (sym e))
    ∙ ap (λ (n : ℕ). highest_locked w (drop n rs)) k)

pub locked-whole : (w : World) (rs : List ℕ) (behind best : ℕ) → length rs ≤ behind
    → best ≡ highest_locked w (drop (length rs - behind) rs) → best ≡ highest_locked w rs
locked-whole w rs behind best l h =
    h ∙ ap (λ (n : ℕ). highest_locked w (drop n rs)) (let e : length rs - behind ≡ 0 = omega (arith, l) in e)
