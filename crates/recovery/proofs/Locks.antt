-- Locks of correct replicas: the highest is safe for all, and may be led from.
use Rattle.std.proofs.Common.{ℕ, ◌≡◌, ◌<◌, ◌≤◌, ◌⊎◌, ◌||◌, true, List, [], ◌∷◌, length, refl, sym, ap}
use Rattle.std.proofs.Common.{subst, ◌∙◌, ◌+◌, arith, inl, inr, nat_lt}
use Rattle.std.proofs.lemmas.Bool.{and_from, or_left, or_right, cond_both, cases_eq, cases_lt, lt-ltb, le-leb}
use Rattle.std.proofs.lemmas.Bool.{ltb-true}
use Rattle.ids.specs.Sizes.{Sizes, replicas}
use Rattle.definitions.specs.Lists.{Among, beginning}
use Rattle.definitions.specs.Branches.{Branch, just1, just2, justify_height, Extends, extends, branch_eq}
use Rattle.definitions.specs.Trees.{Stored, is_in_reach}
use Rattle.definitions.specs.Chronicles.{Admitted, Chronicle, IsLawful, taken_blocks, stored_block, stored_blocks}
use Rattle.definitions.specs.Chronicles.{standing_blocks, horizon, lock, vheight, is_safe}
use Rattle.definitions.specs.Grounds.{is_justified, may_lead_from, is_own_certified}
use Rattle.definitions.specs.Checks.{Identity}
use Rattle.definitions.specs.Agreement.{IsLawfulFamily}
use Rattle.definitions.specs.Worlds.{World, is_correct, self_of}
use Rattle.definitions.proofs.Lists.{Among-mapped, Among-kept, any-from}
use Rattle.definitions.proofs.Branches.{branch_eq-decides, just1-extends, extends-from, length-extends, just2-is}
use Rattle.definitions.proofs.Chronicles.{lock-above, lock-cases, tree-taken, tree-just1, taken-tree}
use Rattle.definitions.proofs.Counts.{found}
use Rattle.definitions.proofs.Horizons.{horizon-low, executed-locked}
use Rattle.linear_law.specs.Law.{correct_family}
use Rattle.linear_law.proofs.WholeRuns.{chronicles-lawful, chronicles-family}
use Rattle.recovery.specs.Correct.{OfCorrect, chronicle_of, lock_of, correct_replicas}
use Rattle.recovery.specs.Healing.{highest_locked}
use Rattle.recovery.specs.NeverWedged.{healer}
use Rattle.recovery.specs.Locks.{IsSafeForAll, HighestLocksAreSafe, LocksMayBeLedFrom}
use Rattle.recovery.proofs.Families.{locked-certified, one-of-height}
use Rattle.recovery.proofs.Correct.{among-correct, correct-listed, highest-locked}

-- ---- what is safe

-- the oldest so many of a list are no more than so many
pub beginning-short : {A : Type 0} (k : ℕ) (xs : List A) → length (beginning k xs) ≤ k
unfolding beginning
beginning-short k [] = omega arith
beginning-short k (x ∷ xs) =
    cond_both (nat_lt (length xs) k) (x ∷ xs) (beginning k xs) (λ (l : List _). length l ≤ k)
    (λ t. let h = ltb-true (length xs) k t in omega (arith, h)) (λ f. beginning-short k xs)

-- what a block justifies is no higher than the height that it names
just1-short : (x : Branch) → length (just1 x) ≤ justify_height x
unfolding just1
just1-short x = beginning-short (justify_height x) x

-- a block that justifies the lock, or a higher block, is safe above what was voted for
pub safe-over : (c : Chronicle) (m x : Branch) → (lock c ≡ m) ⊎ (length (lock c) < length m) → just1 x ≡ m
    → vheight c < length x → is_safe x c ≡ true
unfolding is_safe
safe-over c m x h e l =
    and_from (nat_lt (vheight c) (length x)) (extends x (lock c) || nat_lt (length (lock c)) (justify_height x))
    (lt-ltb (vheight c) (length x) l)
    (elim h [
      | inl i ↦ or_left _ _ (extends-from x (lock c) (subst (Extends x) (e ∙ sym i) (just1-extends x)))
      | inr k ↦ or_right (extends x (lock c)) _
          (let s = just1-short x in let n = ap (λ (z : Branch). length z) e in
          lt-ltb (length (lock c)) (justify_height x) (omega (arith, k, s, n)))
    ])

-- ---- the highest lock

-- a world's healer is correct, and no correct lock is above its own
pub healer-highest : (w : World) → IsLawfulFamily (correct_family w)
    → (is_correct w (healer w) ≡ true)
    × OfCorrect w (λ r. length (lock_of w r) ≤ length (lock_of w (healer w)))
healer-highest w l =
    let some = found (replicas w.sizes) (is_correct w) (let k = l.enough in omega (arith, k)) in
    by (correct_replicas w) refl some.0 (correct-listed w some.0 some.1)
  where
    by : (xs : List ℕ) → correct_replicas w ≡ xs → (i : ℕ) → Among i xs
        → (is_correct w (highest_locked w xs) ≡ true)
        × OfCorrect w (λ r. length (lock_of w r) ≤ length (lock_of w (highest_locked w xs)))
    by [] e i m = absurd m
    by (r ∷ rs) e i m =
        let h = highest-locked w r rs in (
          among-correct w (replicas w.sizes) _ (subst (Among _) (sym e) h.0),
          λ s c. h.1 s (subst (Among s) e (correct-listed w s c)),
        )

-- a branch of no height is genesis
pub nil : (x : Branch) → length x ≡ 0 → x ≡ []
nil [] h = refl
nil (b ∷ x) h = absurd (omega (arith, h))

-- of two locks of correct replicas that are equally high one is the other
pub locks-one : (w : World) → IsLawfulFamily (correct_family w) → (r s : ℕ) → is_correct w r ≡ true
    → is_correct w s ≡ true → length (lock_of w r) ≡ length (lock_of w s) → lock_of w r ≡ lock_of w s
locks-one w l r s mr ms e =
    elim (cases_lt 0 (length (lock_of w r))) [
      | inl h ↦ one-of-height (correct_family w) l (lock_of w r) (lock_of w s)
          (locked-certified (correct_family w) l r mr h)
          (locked-certified (correct_family w) l s ms (omega (arith, h, e))) e
      | inr z ↦ nil (lock_of w r) (omega (arith, z)) ∙ sym (nil (lock_of w s) (omega (arith, z, e)))
    ]

-- so none is above it, nor beside it
safe-for-all : (w : World) → IsLawfulFamily (correct_family w) → IsSafeForAll w (lock_of w (healer w))
safe-for-all w l = record {
  locks = below;
  votes = λ r c x e h. safe-over (chronicle_of w r) (lock_of w (healer w)) x (below r c) e h;
}
  where
    below : OfCorrect w (λ r. (lock_of w r ≡ lock_of w (healer w))
        ⊎ (length (lock_of w r) < length (lock_of w (healer w))))
    below r c =
        let top = healer-highest w l in
        elim (cases_eq (length (lock_of w r)) (length (lock_of w (healer w)))) [
          | inl e ↦ inl (locks-one w l r (healer w) c top.0 e)
          | inr d ↦ inr (let k = top.1 r c in omega (arith, k, d))
        ]

pub highest-locks-safe : HighestLocksAreSafe
highest-locks-safe sizes is_faulty ring hs last met e =
    let l = chronicles-family sizes is_faulty ring hs last met e in
    ((healer-highest last l).0, safe-for-all last l)

-- ---- leads

-- a block that was taken, and is in reach, justifies what it justifies
pub justified-from : (c : Chronicle) (a : Admitted) (b : Branch) → Among a (taken_blocks c)
    → just1 a.branch ≡ b → horizon c ≤ length a.branch + 2 → is_justified b c ≡ true
unfolding is_justified standing_blocks stored_blocks
justified-from c a b m e l =
    any-from (λ (s : Stored). branch_eq (just1 s.branch) b) (standing_blocks c) (stored_block a)
    (Among-kept (λ (s : Stored). is_in_reach (horizon c) s.branch) (stored_blocks c) (stored_block a)
    (Among-mapped stored_block (taken_blocks c) a m) (le-leb (horizon c) (length a.branch + 2) l))
    ((branch_eq-decides (just1 a.branch) b).1 e)

first-of : {A : Type 0} (xs : List A) → (xs ≡ [] → ⊥) → (x : A) × Among x xs
first-of [] h = absurd (h refl)
first-of (x ∷ xs) h = (x, inl refl)

-- who took any block took one whose second justified block is the lock
pub over-some : (c : Chronicle) → (taken_blocks c ≡ [] → ⊥)
    → (a : Admitted) × Among a (taken_blocks c) × (just2 a.branch ≡ lock c)
over-some c some =
    elim (lock-cases c) [
      | inr r ↦ (r.0, r.1, sym r.2)
      | inl e ↦ (
          let a = first-of (taken_blocks c) some in
          let h = lock-above c a.0 a.1 in
          let k = ap (λ (x : Branch). length x) e in
          (a.0, a.1, nil (just2 a.0.branch) (omega (arith, h, k)) ∙ sym e))
    ]

-- what justifies the lock stands in the tree, so some block that is in reach does
pub lock-justified : (s : Sizes) (c : Chronicle) → IsLawful s c → (a : Admitted) → Among a (taken_blocks c)
    → just2 a.branch ≡ lock c → is_justified (lock c) c ≡ true
lock-justified s c law a m e =
    let over : just1 (just1 a.branch) ≡ lock c = just2-is a.branch ∙ e in
    let low = horizon-low c in
    let locked = executed-locked c in
    elim (cases_lt 0 (length (just1 a.branch))) [
      | inl h ↦ (
          let b = tree-taken c (just1 a.branch) (tree-just1 s c law a.branch (taken-tree c a m)) h in
          let i : just1 b.0.branch ≡ lock c = ap just1 b.2 ∙ over in
          let k = length-extends b.0.branch (just1 b.0.branch) (just1-extends b.0.branch) in
          let n = ap (λ (x : Branch). length x) i in
          justified-from c b.0 (lock c) b.1 i (omega (arith, low, locked, k, n)))
      | inr z ↦ (
          let k = length-extends (just1 a.branch) (just1 (just1 a.branch)) (just1-extends (just1 a.branch)) in
          let n = ap (λ (x : Branch). length x) over in
          let i : just1 a.branch ≡ lock c =
          nil (just1 a.branch) (omega (arith, z)) ∙ sym (nil (lock c) (omega (arith, z, k, n))) in
          justified-from c a (lock c) m i (omega (arith, low, locked, z, k, n)))
    ]

-- a replica that took any block may lead from its lock
pub led-from-lock : (self : Identity) (c : Chronicle) → IsLawful self.sizes c → (taken_blocks c ≡ [] → ⊥)
    → may_lead_from self (lock c) c ≡ true
unfolding may_lead_from
led-from-lock self c law some =
    let a = over-some c some in
    and_from _ _ (le-leb (length (lock c)) (length (lock c)) (omega arith))
    (or_left (is_justified (lock c) c) (is_own_certified self (lock c) c)
    (lock-justified self.sizes c law a.0 a.1 a.2))

pub locks-led-from : LocksMayBeLedFrom
locks-led-from sizes is_faulty ring hs last met e =
    λ r c some. led-from-lock (self_of last r) (chronicle_of last r)
    (chronicles-lawful sizes is_faulty ring hs last met e r c) some
