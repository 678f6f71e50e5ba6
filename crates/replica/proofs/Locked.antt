-- What stands over a replica's lock.
use Rattle.std.proofs.Common.{ℕ, suc, ◌≡◌, ◌+◌, ◌-◌, ◌<◌, ◌≤◌, List, [], ◌∷◌, length, map, reverse, find, get_or, drop}
use Rattle.std.proofs.Common.{zero, inl, inr, Option, Some, None, Bool, true, false, if◌then◌else◌, refl, sym, ap, subst, ◌∙◌, arith, option_map, length-append}
use Rattle.std.proofs.Math.Seq.{drop-cons, drop-nil}
use Rattle.std.proofs.lemmas.List.{get_or-reverse, reverse-append, length-reverse, length-map}
use Rattle.std.proofs.lemmas.Bool.{cond-true, cond-false}
use Rattle.std.proofs.lemmas.Slice.Eq.{bytes_eq-Decides}
use Rattle.std.specs.Prelude.{unwrap_or}
use Rattle.std.specs.Str.{bytes_eq}
use Rattle.ids.specs.Sizes.{Sizes}
use Rattle.block_tree.specs.declared.node.Node.{Node}
use Rattle.block_tree.specs.Finding.{justified_of}
use Rattle.block_tree.specs.Nodes.{IsNodeOf}
use Rattle.definitions.specs.Bytes.{Bytes}
use Rattle.definitions.specs.Lists.{Among}
use Rattle.definitions.specs.Branches.{Branch, branch_eq, just1, just2}
use Rattle.definitions.specs.Chronicles.{Chronicle, Admitted, taken_blocks, stored_block, stored_blocks, standing_blocks, horizon, lock, window, IsSound}
use Rattle.definitions.specs.Digests.{digest_of}
use Rattle.definitions.specs.States.{find_block}
use Rattle.definitions.specs.Trees.{Stored, blocks, find_in, IsTree}
use Rattle.definitions.proofs.Branches.{just1-extends, justify_height-just1, branch_eq-decides}
use Rattle.definitions.proofs.Horizons.{standing-all, lock-window}
use Rattle.definitions.proofs.Lists.{find_some, Among-before, Among-either, Among-mapped}
use Rattle.definitions.proofs.Trees.{found-itself, tree-below}
use Rattle.replica.specs.Locked.{over_lock, HasBlock, named, over_in, over_by}
use Rattle.replica.proofs.Walking.{map-reverse}

among-reversed : {A : Type 0} (xs : List A) (x : A) → Among x (reverse xs) → Among x xs
among-reversed [] x m = m
among-reversed {A} (y ∷ ys) x m =
    elim (Among-either x (reverse ys) (y ∷ []) (subst (λ (zs : List A). Among x zs) (reverse-append (y ∷ []) ys) m)) [
      | inl k ↦ inr (among-reversed ys x k)
      | inr k ↦ elim k [ inl e ↦ inl e | inr n ↦ absurd n ]
    ]

-- ---- one block

-- a block is found by its digest
pub found-by : (stored : List Stored) (x : Branch) (d : Bytes) → HasBlock stored x d
    → find_in d (blocks stored) ≡ Some x
found-by stored x d h =
    ap (λ (e : Bytes). find_in e (blocks stored)) h.named ∙ found-itself 0 (blocks stored) h.tree x h.among

-- what it justifies stands there, too
pub has-justified : (stored : List Stored) (x : Branch) (d : Bytes) → HasBlock stored x d
    → HasBlock stored (just1 x) (digest_of (just1 x))
has-justified stored x d h = record {
  tree = h.tree;
  among = tree-below 0 (blocks stored) h.tree x (just1 x) h.among (just1-extends x) (omega arith);
  named = refl;
}

-- what it justifies is told by its digest
told-justified : (stored : List Stored) (x : Branch) (d : Bytes) (o : Option (Bytes × ℕ)) → HasBlock stored x d
    → o ≡ option_map justified_of (find_in d (blocks stored)) → o ≡ Some (named (just1 x))
told-justified stored x d o h e =
    e ∙ (ap (option_map justified_of) (found-by stored x d h)
    ∙ ap (λ (n : ℕ). Some (digest_of (just1 x), n)) (sym (justify_height-just1 x (h.tree.branches x h.among))))

-- so something is told
pub told-some : (stored : List Stored) (x : Branch) (d : Bytes) (o : Option (Bytes × ℕ)) → HasBlock stored x d
    → o ≡ option_map justified_of (find_in d (blocks stored)) → o ≡ None → ⊥
told-some stored x d o h e n =
    let is = told-justified stored x d o h e in
    let differ : None ≡ Some (named (just1 x)) = sym n ∙ is in
    cc

told-named : (stored : List Stored) (x : Branch) (d f : Bytes) (n : ℕ) (o : Option (Bytes × ℕ)) → HasBlock stored x d
    → o ≡ option_map justified_of (find_in d (blocks stored)) → o ≡ Some (f, n) → (f, n) ≡ named (just1 x)
told-named stored x d f n o h e is =
    let same : Some (f, n) ≡ Some (named (just1 x)) = sym is ∙ told-justified stored x d o h e in
    cc

-- and it stands there by what is told
pub told-has : (stored : List Stored) (x : Branch) (d f : Bytes) (n : ℕ) (o : Option (Bytes × ℕ)) → HasBlock stored x d
    → o ≡ option_map justified_of (find_in d (blocks stored)) → o ≡ Some (f, n) → HasBlock stored (just1 x) f
told-has stored x d f n o h e is = record {
  tree = h.tree;
  among = (has-justified stored x d h).among;
  named = ap (λ (p : Bytes × ℕ). p.0) (told-named stored x d f n o h e is);
}

-- digests tell two of them apart
same-block : (stored : List Stored) (x y : Branch) (d e : Bytes) → HasBlock stored x d → HasBlock stored y e
    → bytes_eq d e ≡ branch_eq x y
same-block stored x y d e h k =
    alike (bytes_eq d e) (branch_eq x y)
    (λ t. (branch_eq-decides x y).1 (h.tree.one x y h.among k.among
    (sym h.named ∙ ((bytes_eq-Decides d e).0 t ∙ k.named))))
    (λ t. (bytes_eq-Decides d e).1 (h.named ∙ (ap digest_of ((branch_eq-decides x y).0 t) ∙ sym k.named)))
  where
    alike : (a b : Bool) → (a ≡ true → b ≡ true) → (b ≡ true → a ≡ true) → a ≡ b
    alike true b f g = sym (f refl)
    alike false true f g = g refl
    alike false false f g = refl

-- so what a block justifies is told, if that justifies the lower one
pub told-over : (stored : List Stored) (x y : Branch) (d low f s : Bytes) (n m : ℕ) (o p : Option (Bytes × ℕ)) (t : Bool)
    → HasBlock stored x d → HasBlock stored y low → o ≡ option_map justified_of (find_in d (blocks stored))
    → o ≡ Some (f, n) → p ≡ option_map justified_of (find_in f (blocks stored)) → p ≡ Some (s, m)
    → t ≡ bytes_eq s low → (if t then Some (f, n) else None) ≡ over_by y x
unfolding just2
told-over stored x y d low f s n m o p t hx hy eo io ep ip et =
    let h1 = told-has stored x d f n o hx eo io in
    let h2 = told-has stored (just1 x) f s m p h1 ep ip in
    ap (λ (b : Bool). if b then Some (f, n) else None) (et ∙ same-block stored (just1 (just1 x)) y s low h2 hy)
    ∙ ap (λ (q : Bytes × ℕ). if branch_eq (just1 (just1 x)) y then Some q else None)
    (told-named stored x d f n o hx eo io)

-- ---- the oldest first

among-dropped : {A : Type 0} (n : ℕ) (xs : List A) (x : A) → Among x (drop n xs) → Among x xs
among-dropped zero xs x m = m
among-dropped (suc n) [] x m = m
among-dropped (suc n) (y ∷ ys) x m = inr (among-dropped n ys x m)

-- the one so many places from the oldest, seen from both sides
from-oldest : {A : Type 0} (xs : List A) (k : ℕ) → k < length xs
    → (x : A) × (older : List A) × (drop (length xs - 1 - k) xs ≡ x ∷ older)
    × (drop k (reverse xs) ≡ x ∷ drop (suc k) (reverse xs))
from-oldest [] k l = absurd (omega arith)
from-oldest (y ∷ ys) k l =
    let xs = y ∷ ys in
    let n = length (y ∷ ys) - 1 - k in (
      get_or (y ∷ ys) n y,
      drop (suc n) (y ∷ ys),
      drop-cons (y ∷ ys) n y (omega arith),
      drop-cons (reverse (y ∷ ys)) k y (omega (arith, l, length-reverse (y ∷ ys)))
          ∙ ap (λ z. z ∷ drop (suc k) (reverse (y ∷ ys))) (get_or-reverse (y ∷ ys) k y l),
    )

-- what the first of these justifies that stands so over the lower one
abbrev pub over_of : Branch → List Stored → Option (Bytes × ℕ)
over_of lower xs = option_map (λ s. named (just1 s.branch)) (find (λ s. branch_eq (just2 s.branch) lower) xs)

over-first : (lower : Branch) (s : Stored) (xs : List Stored) (b : Bool) → branch_eq (just2 s.branch) lower ≡ b
    → over_of lower (s ∷ xs) ≡ (if b then Some (named (just1 s.branch)) else over_of lower xs)
over-first lower s xs true e =
    ap (option_map (λ z. named (just1 z.branch)))
    (cond-true (branch_eq (just2 s.branch) lower) (Some s) (find (λ z. branch_eq (just2 z.branch) lower) xs) e)
over-first lower s xs false e =
    ap (option_map (λ z. named (just1 z.branch)))
    (cond-false (branch_eq (just2 s.branch) lower) (Some s) (find (λ z. branch_eq (just2 z.branch) lower) xs) e)

-- the answer of one, before the others
abbrev pub either : Option (Bytes × ℕ) → Option (Bytes × ℕ) → Option (Bytes × ℕ)
either None later = later
either (Some p) later = Some p

over-next : (lower : Branch) (s : Stored) (xs : List Stored)
    → over_of lower (s ∷ xs) ≡ either (over_by lower s.branch) (over_of lower xs)
over-next lower s xs = by (branch_eq (just2 s.branch) lower) refl
  where
    by : (b : Bool) → branch_eq (just2 s.branch) lower ≡ b
        → over_of lower (s ∷ xs) ≡ either (over_by lower s.branch) (over_of lower xs)
    by true e =
        over-first lower s xs true e
        ∙ ap (λ (o : Option (Bytes × ℕ)). either o (over_of lower xs))
        (sym (cond-true (branch_eq (just2 s.branch) lower) (Some (named (just1 s.branch))) None e))
    by false e =
        over-first lower s xs false e
        ∙ ap (λ (o : Option (Bytes × ℕ)). either o (over_of lower xs))
        (sym (cond-false (branch_eq (just2 s.branch) lower) (Some (named (just1 s.branch))) None e))

-- ---- the loop

-- one more block is looked at, which answers this
pub seen-one : (stored : List Stored) (lower : Branch) (low d : Bytes) (count k : ℕ) (n : Node) (over : Option (Bytes × ℕ))
    → count ≡ length (blocks stored) → k < count - 1 → HasBlock stored lower low → d ≡ n.digest
    → ((s : Stored) (older : List Stored) → drop (count - 1 - 1 - k) stored ≡ s ∷ older → IsNodeOf n s)
    → ((x y : Branch) → HasBlock stored x d → HasBlock stored y low → over ≡ over_by y x)
    → over_in lower stored ≡ over_of lower (drop k (reverse stored))
    → over_in lower stored ≡ either over (over_of lower (drop (k + 1) (reverse stored)))
seen-one stored lower low d count k n over all l h is node answer e =
    let many : count ≡ length stored + 1 =
    all ∙ (length-append (map (λ x. x.branch) stored) ([] ∷ [])
    ∙ ap (λ (m : ℕ). m + 1) (length-map stored (λ x. x.branch))) in
    let o = from-oldest stored k (omega (arith, l, many)) in
    let s : Stored = o.0 in
    let place : length stored - 1 - k ≡ count - 1 - 1 - k = omega (arith, many) in
    let at : drop (count - 1 - 1 - k) stored ≡ o.0 ∷ o.1 = ap (λ (m : ℕ). drop m stored) (sym place) ∙ o.2 in
    let there : Among s (drop (count - 1 - 1 - k) stored) =
    subst (λ (xs : List Stored). Among s xs) (sym at) (inl refl) in
    let stands : Among s.branch (blocks stored) =
    Among-before s.branch (map (λ x. x.branch) stored) ([] ∷ [])
    (Among-mapped (λ (x : Stored). x.branch) stored s (among-dropped (count - 1 - 1 - k) stored s there)) in
    let next : suc k ≡ k + 1 = omega arith in
    e ∙ (ap (over_of lower) o.3 ∙ (over-next lower s (drop (suc k) (reverse stored))
    ∙ (ap (λ (a : Option (Bytes × ℕ)). either a (over_of lower (drop (suc k) (reverse stored))))
    (sym (answer s.branch lower (record { tree = h.tree; among = stands; named = is ∙ (node s o.1 at).named }) h))
    ∙ ap (λ (m : ℕ). either over (over_of lower (drop m (reverse stored)))) next)))

-- all were seen in vain
pub seen-all : (stored : List Stored) (lower : Branch) (count k : ℕ) → count ≡ length (blocks stored) → count - 1 ≤ k
    → over_in lower stored ≡ over_of lower (drop k (reverse stored)) → None ≡ over_in lower stored
seen-all stored lower count k all l e =
    let many : count ≡ length stored + 1 =
    all ∙ (length-append (map (λ x. x.branch) stored) ([] ∷ [])
    ∙ ap (λ (m : ℕ). m + 1) (length-map stored (λ x. x.branch))) in
    let past : length (reverse stored) ≤ k = omega (arith, many, l, length-reverse stored) in
    sym (e ∙ ap (over_of lower) (drop-past (reverse stored) k past))
  where
    drop-past : (xs : List Stored) (m : ℕ) → length xs ≤ m → drop m xs ≡ []
    drop-past [] m l = drop-nil m
    drop-past (x ∷ xs) zero l = absurd (omega arith)
    drop-past (x ∷ xs) (suc m) l = drop-past xs m (omega (arith, l))

-- ---- the lock

find-mapped : {A B : Type 0} (f : A → B) (p : B → Bool) (xs : List A)
    → find p (map f xs) ≡ option_map f (find (λ x. p (f x)) xs)
find-mapped f p [] = refl
find-mapped {A} {B} f p (x ∷ xs) = by (find-mapped f p xs) (p (f x)) refl
  where
    by : find p (map f xs) ≡ option_map f (find (λ y. p (f y)) xs) → (b : Bool) → p (f x) ≡ b
        → find p (map f (x ∷ xs)) ≡ option_map f (find (λ y. p (f y)) (x ∷ xs))
    by rest true e =
        cond-true (p (f x)) (Some (f x)) (find p (map f xs)) e
        ∙ ap (option_map f) (sym (cond-true (p (f x)) (Some x) (find (λ y. p (f y)) xs) e))
    by rest false e =
        cond-false (p (f x)) (Some (f x)) (find p (map f xs)) e ∙ (rest
        ∙ ap (option_map f) (sym (cond-false (p (f x)) (Some x) (find (λ y. p (f y)) xs) e)))

-- the oldest block that this chronicle took over such a one
abbrev taken_over : Branch → Chronicle → Option Admitted
taken_over lower c = find (λ a. branch_eq (just2 a.branch) lower) (reverse (taken_blocks c))

over-taken : (lower : Branch) (c : Chronicle) → horizon c ≡ 0
    → over_in lower (standing_blocks c) ≡ option_map (λ a. named (just1 a.branch)) (taken_over lower c)
unfolding stored_blocks
over-taken lower c z =
    ap (λ (xs : List Stored). over_of lower (reverse xs)) (standing-all c z)
    ∙ (ap (over_of lower) (sym (map-reverse stored_block (taken_blocks c)))
    ∙ (ap (option_map (λ s. named (just1 s.branch)))
    (find-mapped stored_block (λ s. branch_eq (just2 s.branch) lower) (reverse (taken_blocks c)))
    ∙ mapped-twice (taken_over lower c)))
  where
    mapped-twice : (o : Option Admitted)
        → option_map (λ s. named (just1 s.branch)) (option_map stored_block o)
        ≡ option_map (λ a. named (just1 a.branch)) o
    mapped-twice None = refl
    mapped-twice (Some a) = refl

-- it stands in the window
over-stands : (s : Sizes) (c : Chronicle) → IsSound s c → horizon c ≡ 0 → Among (over_lock c) (window c)
unfolding window stored_blocks
over-stands s c so z = by (taken_over (lock c) c) refl
  where
    whole : IsTree 0 (window c)
    whole = subst (λ (h : ℕ). IsTree h (window c)) z so.is_tree

    by : (o : Option Admitted) → taken_over (lock c) c ≡ o
        → Among (unwrap_or (option_map (λ a. just1 a.branch) o) []) (window c)
    by None e = whole.genesis
    by (Some a) e =
        let f = find_some (λ (x : Admitted). branch_eq (just2 x.branch) (lock c)) (reverse (taken_blocks c)) a e in
        let m : Among (stored_block a) (standing_blocks c) =
        subst (λ (xs : List Stored). Among (stored_block a) xs) (sym (standing-all c z))
        (Among-mapped stored_block (taken_blocks c) a (among-reversed (taken_blocks c) a f.0)) in
        tree-below 0 (window c) whole a.branch (just1 a.branch)
        (Among-before a.branch (map (λ (x : Stored). x.branch) (standing_blocks c)) ([] ∷ [])
        (Among-mapped (λ (x : Stored). x.branch) (standing_blocks c) (stored_block a) m)) (just1-extends a.branch)
        (omega arith)

-- so what a whole tree answers for the lock is what stands over it
pub over-is : (s : Sizes) (c : Chronicle) (over : Option (Bytes × ℕ)) → IsSound s c → horizon c ≡ 0
    → ((y : Branch) → HasBlock (standing_blocks c) y (digest_of (lock c)) → over ≡ over_in y (standing_blocks c))
    → (find_block (unwrap_or over (named [])).0 c ≡ Some (over_lock c))
    × ((unwrap_or over (named [])).1 ≡ length (over_lock c))
unfolding window find_block
over-is s c over so z answer =
    let whole : IsTree 0 (window c) = subst (λ (h : ℕ). IsTree h (window c)) z so.is_tree in
    let is =
    answer (lock c) (record { tree = whole; among = lock-window s c so.lawful; named = refl })
    ∙ over-taken (lock c) c z in
    let same : unwrap_or over (named []) ≡ named (over_lock c) =
    ap (λ (o : Option (Bytes × ℕ)). unwrap_or o (named [])) is ∙ by (taken_over (lock c) c) in (
      ap (λ (p : Bytes × ℕ). find_in p.0 (window c)) same
          ∙ found-itself 0 (window c) whole (over_lock c) (over-stands s c so z),
      ap (λ (p : Bytes × ℕ). p.1) same,
    )
  where
    by : (o : Option Admitted)
        → unwrap_or (option_map (λ a. named (just1 a.branch)) o) (named [])
        ≡ named (unwrap_or (option_map (λ a. just1 a.branch) o) [])
    by None = refl
    by (Some a) = refl
