-- A replica that takes a leader's blocks over a certified one, each justifying that.
use Rattle.ids.specs.declared.limits.TheConstants.{HEIGHT_LIMIT}
use Rattle.std.specs.Prelude.{count_by}
use Rattle.std.proofs.lemmas.List.Sums.{sum_by-cons}
use Rattle.std.proofs.Common.{ℕ, suc, ◌≡◌, ◌<◌, ◌≤◌, ◌+◌, ◌⊎◌, ◌==◌, Bool, true, false, cond}
use Rattle.std.proofs.Common.{List, [], ◌∷◌, map, length, max, sym, ap, subst, ◌∙◌, arith, inl, inr, nat_lt}
use Rattle.std.specs.List.{list_any, list_all}
use Rattle.std.proofs.lemmas.Bool.{cond-true, cond-false, cond_both, cases_lt, or_left}
use Rattle.std.proofs.lemmas.Bool.{ltb-true, ne_eqb}
use Rattle.definitions.specs.Lists.{Among, greatest}
use Rattle.definitions.specs.Branches.{Block, Branch, just1, just2, IsBranch, branch_eq, highest}
use Rattle.definitions.specs.Checks.{Identity, command_verifies}
use Rattle.definitions.specs.Chronicles.{Admitted, Chronicle, Step.took_block, taken_blocks, voted_blocks, window}
use Rattle.definitions.specs.Chronicles.{horizon, standing_blocks, stored_block, lock, vheight}
use Rattle.definitions.specs.Grounds.{is_justified, is_own_certified}
use Rattle.definitions.specs.Chronicles.{stored_blocks}
use Rattle.definitions.specs.States.{view}
use Rattle.definitions.specs.Trees.{Stored, blocks, standing, clear_above, is_clear}
use Rattle.definitions.proofs.Branches.{just1-below, just2-is, branch_eq-decides, length-extends}
use Rattle.definitions.proofs.Horizons.{window-grown}
use Rattle.definitions.proofs.Windows.{block-stored}
use Rattle.definitions.proofs.Lists.{any-from}
use Rattle.recovery.specs.Fetching.{HasPlace}
use Rattle.recovery.specs.Rounds.{Climbs}
use Rattle.recovery.proofs.Decided.{justifies-below}
use Rattle.recovery.proofs.Grounds.{just1-genesis}
use Rattle.recovery.proofs.Fetched.{took-stands, window-told, lock-told}
use Rattle.recovery.proofs.Locks.{nil}
use Rattle.recovery.proofs.Proposals.{standing-old, clear-more, clear-over, clear-first}

-- a place for the next block
pub next-place : (self : Identity) (v : ℕ) (m y : Branch) (room : ℕ) (c : Chronicle) (b : Block)
    → Climbs self v m y (suc room) c → b.justify ≡ length m → suc (length y) < HEIGHT_LIMIT → HasPlace c b y
next-place self v m y room c b k j low = record {
  stands = k.stands;
  below = (let e = length-extends y m k.over in omega (arith, e, j));
  reach = (let r = k.reach in omega (arith, r, j));
  room = (let t = k.trees in omega (arith, t));
  uncrowded = k.heights (suc (length y)) (omega arith);
  low = low;
}

-- ---- one block more

abbrev IsAdded : Identity → Block → Branch → Chronicle → Admitted → Type 0
IsAdded self b y c a =
    ((a.new ≡ true) × (a.clear ≡ list_all (command_verifies self) b.commands))
    ⊎ ((a.new ≡ false) × Among (b ∷ y) (window c))

-- what stands justifies what it justifies
pub stands-justifies : (m x : Branch) (c : Chronicle) → Among x (window c) → 0 < length x → just1 x ≡ m
    → is_justified m c ≡ true
unfolding is_justified window
stands-justifies m x c k up j = elim (block-stored (standing_blocks c) x k) [
  | inl z ↦ absurd (let n = ap (λ (y : Branch). length y) z in omega (arith, n, up))
  | inr s ↦ any-from (λ (y : Stored). branch_eq (just1 y.branch) m) (standing_blocks c) s.0 s.1
      ((branch_eq-decides (just1 s.0.branch) m).1 (ap just1 (sym s.2) ∙ j))
]

-- a block that was taken justifies what it justifies
ground-itself : (m : Branch) (c : Chronicle) (a : Admitted) (b : Block) (y : Branch) → a.branch ≡ b ∷ y
    → just1 a.branch ≡ m → horizon c ≤ length a.branch + 2
    → (a.new ≡ true) ⊎ ((a.new ≡ false) × Among (b ∷ y) (window c)) → is_justified m (took_block a ∷ c) ≡ true
unfolding is_justified window
ground-itself m c a b y e j l (inl n) =
    subst (λ (s : List Stored). list_any (λ x. branch_eq (just1 x.branch) m) s ≡ true) (sym (window-grown a c n l))
    (or_left (branch_eq (just1 a.branch) m) (list_any (λ x. branch_eq (just1 x.branch) m) (standing_blocks c))
    ((branch_eq-decides (just1 a.branch) m).1 j))
ground-itself m c a b y e j l (inr o) =
    subst (λ (s : List Stored). list_any (λ x. branch_eq (just1 x.branch) m) s ≡ true) (sym (standing-old a c o.0))
    (stands-justifies m (b ∷ y) c o.1 (omega arith) (ap just1 (sym e) ∙ j))

-- the lock is still safe
pub lock-more : (m : Branch) (c : Chronicle) (a : Admitted) → IsBranch m → just1 a.branch ≡ m
    → (lock c ≡ m) ⊎ (length (lock c) < length m) → (lock (took_block a ∷ c) ≡ m) ⊎ (length (lock
    (took_block a ∷ c)) < length m)
unfolding lock taken_blocks highest
lock-more m c a br j h = by a.new
  where
    rest : List Branch
    rest = map (λ (x : Admitted). just2 x.branch) (taken_blocks c)

    lower : (m ≡ []) ⊎ (length (just2 a.branch) < length m)
    lower = elim (cases_lt 0 (length m)) [
      | inl p ↦ inr (let k = just1-below m br p in
          let e = ap (λ (x : Branch). length (just1 x)) j in
          let i = ap (λ (x : Branch). length x) (just2-is a.branch) in omega (arith, k, e, i))
      | inr z ↦ inl (nil m (omega (arith, z)))
    ]

    safe : (length (highest rest) < length (just2 a.branch)) → (just2 a.branch ≡ m) ⊎ (length
        (just2 a.branch) < length m)
    safe l = elim lower [
      | inl e ↦ absurd (let i = ap (λ (x : Branch). length x) (sym (just2-is a.branch) ∙ ap just1 (j ∙ e)
          ∙ just1-genesis) in
          omega (arith, i, l))
      | inr k ↦ inr k
    ]

    by : (t : Bool)
        → (highest (map (λ (x : Admitted). just2 x.branch) (cond t (a ∷ taken_blocks c) (taken_blocks c))) ≡ m)
        ⊎ (length (highest (map (λ (x : Admitted). just2 x.branch) (cond t (a ∷ taken_blocks c) (taken_blocks c))))
        < length m)
    by true = cond_both (nat_lt (length (highest rest)) (length (just2 a.branch))) (just2 a.branch) (highest rest)
        (λ (x : Branch). (x ≡ m) ⊎ (length x < length m))
        (λ t. safe (ltb-true (length (highest rest)) (length (just2 a.branch)) t)) (λ t. h)
    by false = h

-- the window after a new block, and after one that stands
pub window-new : (c : Chronicle) (a : Admitted) → a.new ≡ true → horizon c ≤ length a.branch + 2
    → window (took_block a ∷ c) ≡ a.branch ∷ window c
unfolding window
window-new c a n l = ap blocks (window-grown a c n l)

pub window-old : (c : Chronicle) (a : Admitted) → a.new ≡ false → window (took_block a ∷ c) ≡ window c
unfolding window
window-old c a o = ap blocks (standing-old a c o)

-- so a window grows by one block at most, and by none of another height
pub window-longer : (c : Chronicle) (a : Admitted) → horizon c ≤ length a.branch + 2 → (a.new ≡ true) ⊎ (a.new ≡ false)
    → length (window (took_block a ∷ c)) ≤ suc (length (window c))
window-longer c a l (inl n) =
    let e = ap (λ (w : List Branch). length w) (window-new c a n l) in omega (arith, e)
window-longer c a l (inr o) = let e = ap (λ (w : List Branch). length w) (window-old c a o) in omega (arith, e)

count-other : (h : ℕ) (x : Branch) (l : List Branch) → (length x ≡ h → ⊥)
    → count_by (λ y. length y == h) (x ∷ l) ≡ count_by (λ y. length y == h) l
count-other h x l n =
    let f : Branch → ℕ = λ y. cond (length y == h) 1 0 in
    let z : f x ≡ 0 = cond-false {A = ℕ} (length x == h) 1 0 (ne_eqb (length x) h n) in
    let s = sum_by-cons f x l in
    omega (arith, z, s)

pub window-count : (c : Chronicle) (a : Admitted) (h : ℕ) → horizon c ≤ length a.branch + 2
    → (a.new ≡ true) ⊎ (a.new ≡ false) → (length a.branch ≡ h → ⊥)
    → count_by (λ y. length y == h) (window (took_block a ∷ c)) ≡ count_by (λ y. length y == h) (window c)
window-count c a h l (inl n) o =
    ap (λ (w : List Branch). count_by (λ y. length y == h) w) (window-new c a n l) ∙ count-other h a.branch (window c) o
window-count c a h l (inr n) o = ap (λ (w : List Branch). count_by (λ y. length y == h) w) (window-old c a n)

-- all is clear down to m
clear-all : (self : Identity) (m y : Branch) (c : Chronicle) (b : Block) (a : Admitted) → a.branch ≡ b ∷ y
    → horizon c ≤ length a.branch + 2 → IsAdded self b y c a → list_all (command_verifies self) b.commands ≡ true
    → (Among (b ∷ y) (window c) → is_clear (b ∷ y) (standing_blocks c) ≡ true)
    → clear_above (length m) y (standing_blocks c) ≡ true
    → clear_above (length m) (b ∷ y) (standing_blocks (took_block a ∷ c)) ≡ true
clear-all self m y c b a e l (inl n) good there clear =
    subst (λ (s : List Stored). clear_above (length m) (b ∷ y) s ≡ true) (sym (window-grown a c n.0 l))
    (clear-over (length m) b y (stored_block a ∷ standing_blocks c)
    (clear-first a (b ∷ y) (standing_blocks c) e (n.1 ∙ good))
    (clear-more (length m) y (stored_block a) (standing_blocks c) clear))
clear-all self m y c b a e l (inr o) good there clear =
    subst (λ (s : List Stored). clear_above (length m) (b ∷ y) s ≡ true) (sym (standing-old a c o.0))
    (clear-over (length m) b y (standing_blocks c) (there o.1) clear)

is-new : (self : Identity) (b : Block) (y : Branch) (c : Chronicle) (a : Admitted) → IsAdded self b y c a
    → (a.new ≡ true) ⊎ (a.new ≡ false)
is-new self b y c a (inl n) = inl n.0
is-new self b y c a (inr o) = inr o.0

is-there : (self : Identity) (b : Block) (y : Branch) (c : Chronicle) (a : Admitted) → IsAdded self b y c a
    → (a.new ≡ true) ⊎ ((a.new ≡ false) × Among (b ∷ y) (window c))
is-there self b y c a (inl n) = inl n.0
is-there self b y c a (inr o) = inr o

-- it climbs on
pub climb-more : (self : Identity) (v : ℕ) (m y : Branch) (room : ℕ) (c : Chronicle) (b : Block) (a : Admitted)
    → Climbs self v m y (suc room) c → IsBranch m → b.justify ≡ length m → a.branch ≡ b ∷ y → IsAdded self b y c a
    → list_all (command_verifies self) b.commands ≡ true
    → (Among (b ∷ y) (window c) → is_clear (b ∷ y) (standing_blocks c) ≡ true)
    → Climbs self v m (b ∷ y) room (took_block a ∷ c)
unfolding view horizon
climb-more self v m y room c b a k br j e add good there =
    let above = length-extends y m k.over in
    let long = ap (λ (z : Branch). length z) e in
    let r = k.reach in
    let low : horizon c ≤ length a.branch + 2 = omega (arith, above, long, r) in
    let n = is-new self b y c a add in
    record {
      in_view = k.in_view;
      stands = took-stands c a (b ∷ y) e (omega (arith, low, long)) (is-there self b y c a add);
      over = (b ∷ k.over.0, ap (λ (l : Branch). b ∷ l) k.over.1);
      ground = inl (ground-itself m c a b y e (ap just1 e ∙ justifies-below b y m k.over j) low
          (is-there self b y c a add));
      reach = k.reach;
      safe = lock-more m c a br (ap just1 e ∙ justifies-below b y m k.over j) k.safe;
      clear = clear-all self m y c b a e low add good there k.clear;
      trees = (let t = k.trees in let w = window-longer c a low n in omega (arith, t, w));
      heights = λ h l.
          let w = window-count c a h low n (λ i. let z : length a.branch ≡ h = i in omega (arith, l, long, z)) in
          let f = k.heights h (omega (arith, l)) in omega (arith, w, f);
    }

-- ---- heights that were voted for

voted-or : (t : Bool) (n k : ℕ) → cond t (max n k) k ≤ max n k
voted-or true n k = omega arith
voted-or false n k = omega arith

-- a step raises them to its block's at most
pub voted-low : (c : Chronicle) (a : Admitted) (n : ℕ) → vheight c < n → length a.branch < n
    → vheight (took_block a ∷ c) < n
unfolding vheight voted_blocks greatest
voted-low c a n l h = by a.voted
  where
    by : (t : Bool)
        → greatest (map (λ (x : Branch). length x) (cond t (a.branch ∷ voted_blocks c) (voted_blocks c))) < n
    by true = omega (arith, l, h)
    by false = l

-- a vote that was given stands
pub voted-now : (c : Chronicle) (a : Admitted) (x : Branch) → a.branch ≡ x → a.voted ≡ true
    → Among x (voted_blocks (took_block a ∷ c))
unfolding voted_blocks
voted-now c a x e v =
    subst (λ (l : List Branch). Among x l) (sym (cond-true a.voted (a.branch ∷ voted_blocks c) (voted_blocks c) v))
    (inl (sym e))

-- ---- steps that leave blocks as they are

standing-told : (c d : Chronicle) → taken_blocks d ≡ taken_blocks c → horizon d ≡ horizon c
    → standing_blocks d ≡ standing_blocks c
unfolding standing_blocks stored_blocks
standing-told c d t h = λ k. standing (h k) (map stored_block (t k))

justified-told : (m : Branch) (c d : Chronicle) → standing_blocks d ≡ standing_blocks c
    → is_justified m d ≡ is_justified m c
unfolding is_justified
justified-told m c d e = ap (λ (l : List Stored). list_any (λ x. branch_eq (just1 x.branch) m) l) e

-- who took and pruned nothing, and is in that view, climbs as before
pub climbs-kept : (self : Identity) (v : ℕ) (m y : Branch) (room : ℕ) (c d : Chronicle)
    → view self.sizes d ≡ view self.sizes c → taken_blocks d ≡ taken_blocks c → horizon d ≡ horizon c
    → (is_own_certified self m c ≡ true → is_own_certified self m d ≡ true) → Climbs self v m y room c
    → Climbs self v m y room d
climbs-kept self v m y room c d i t h own k =
    let w = window-told c d t h in
    let s = standing-told c d t h in
    let n = ap (λ (l : List Branch). length l) w in
    let reach = k.reach in
    let trees = k.trees in
    record {
      in_view = i ∙ k.in_view;
      stands = subst (λ (l : List Branch). Among y l) (sym w) k.stands;
      over = k.over;
      ground = elim k.ground [ inl j ↦ inl (justified-told m c d s ∙ j) | inr o ↦ inr (own o) ];
      reach = omega (arith, h, reach);
      safe = subst (λ (x : Branch). (x ≡ m) ⊎ (length x < length m)) (sym (lock-told c d t)) k.safe;
      clear = ap (λ (l : List Stored). clear_above (length m) y l) s ∙ k.clear;
      trees = omega (arith, n, trees);
      heights = λ q l.
          let few = k.heights q l in
          let same = ap (λ (x : List Branch). count_by (λ z. length z == q) x) w in
          omega (arith, few, same);
    }
