-- The window of a chronicle: what the rules look at stands in it, though blocks below the horizon are pruned.
use Rattle.std.proofs.Common.{◌&&◌, ℕ, suc, ◌≡◌, ◌≤◌, ◌+◌, ◌⊎◌, Bool, true, false, List, [], ◌∷◌, length}
use Rattle.std.proofs.Common.{cond, true≢false, refl, sym, ap, subst, ◌∙◌, arith, inl, inr, map}
use Rattle.std.proofs.Common.{nat_lt, Option, Some, None, ◌||◌}
use Rattle.std.proofs.lemmas.Bool.{cond_both, cond-true, eqb-true, ltb-true, ltb-false}
use Rattle.std.proofs.lemmas.Bool.{and_parts, or_cases, or_parts}
use Rattle.ids.specs.Sizes.{Sizes}
use Rattle.definitions.proofs.Lists.{Among-after, Among-before}
use Rattle.definitions.proofs.Branches.{highest-above, just1-extends, just2-is}
use Rattle.definitions.proofs.Branches.{length-extends, branch_eq-decides}
use Rattle.definitions.proofs.Chronicles.{executed-decided}
use Rattle.definitions.proofs.Chronicles.{decided-cases, taken-grows, taken-now, lock-above, lock-cases}
use Rattle.definitions.proofs.Held.{executed-tree, lock-tree}
use Rattle.definitions.proofs.Windows.{blocks-genesis, standing-stays, standing-cases, standing-among}
use Rattle.definitions.proofs.Windows.{standing-grown, standing-again, standing-fewer, standing-tree}
use Rattle.definitions.proofs.Windows.{standing-whole}
use Rattle.definitions.specs.Lists.{Among}
use Rattle.definitions.specs.Branches.{Branch, just1, just2, just3, Extends}
use Rattle.definitions.specs.Branches.{highest, branch_eq}
use Rattle.definitions.specs.Trees.{Stored, blocks, standing, IsTree}
use Rattle.definitions.specs.Chronicles.{Admitted, Note, Step, Step.took_block, Step.noted, Note.got_vote}
use Rattle.definitions.specs.Chronicles.{Note.got_new_view, Note.got_request, Note.got_fetch, Note.timed_out}
use Rattle.definitions.specs.Chronicles.{Note.beat, Note.pruned, Note.seen_view, Note.led_from}
use Rattle.definitions.specs.Chronicles.{Chronicle, taken_blocks, stored_block, stored_blocks, tree}
use Rattle.definitions.specs.Chronicles.{decided_by, decided, decides, executed, horizon, standing_blocks}
use Rattle.definitions.specs.Chronicles.{window, lock, IsLawfulStep, IsLawful}
use Rattle.definitions.specs.Branches.{Block}
use Rattle.definitions.specs.States.{Justified, raised, fills, comes_whole, higher, led, qc_high}

-- ---- what stands in it

pub window-genesis : (c : Chronicle) → Among [] (window c)
unfolding window
window-genesis c = blocks-genesis (standing_blocks c)

-- a block of the tree that is in reach
pub tree-window : (c : Chronicle) (x : Branch) → Among x (tree c) → horizon c ≤ length x + 2
    → Among x (window c)
unfolding tree window standing_blocks
tree-window c x m l = standing-stays (horizon c) (stored_blocks c) x m l

-- what stands there is genesis, or a block of the tree that is in reach
pub window-cases : (c : Chronicle) (x : Branch) → Among x (window c)
    → (x ≡ []) ⊎ (Among x (tree c) × (horizon c ≤ length x + 2))
unfolding tree window standing_blocks
window-cases c x m = standing-cases (horizon c) (stored_blocks c) x m

pub window-tree : (c : Chronicle) (x : Branch) → Among x (window c) → Among x (tree c)
unfolding tree window standing_blocks
window-tree c x m = standing-among (horizon c) (stored_blocks c) x m

-- ---- a step more

-- a new block that is in reach
pub window-grown : (a : Admitted) (c : Chronicle) → a.new ≡ true → horizon c ≤ length a.branch + 2
    → standing_blocks (took_block a ∷ c) ≡ stored_block a ∷ standing_blocks c
unfolding standing_blocks stored_blocks taken_blocks horizon
window-grown a c n l =
    ap (λ (xs : List Admitted). standing (horizon c) (map stored_block xs))
    (cond-true a.new (a ∷ taken_blocks c) (taken_blocks c) n)
    ∙ standing-grown (horizon c) (stored_block a) (map stored_block (taken_blocks c)) l

-- the horizon never falls
pub horizon-rises : (st : Step) (c : Chronicle) → horizon c ≤ horizon (st ∷ c)
unfolding horizon
horizon-rises (took_block a) c = omega arith
horizon-rises (noted (pruned height)) c = omega arith
horizon-rises (noted n) c = omega arith

-- a note of no pruning
abbrev pub is_pruning : Note → Bool
is_pruning (pruned height) = true
is_pruning n = false

-- it leaves horizon and window
pub horizon-noted : (n : Note) (c : Chronicle) → is_pruning n ≡ false → horizon (noted n ∷ c) ≡ horizon c
unfolding horizon
horizon-noted (pruned height) c e = absurd (true≢false e)
horizon-noted (got_vote voter v b) c e = refl
horizon-noted (got_new_view view sender q b) c e = refl
horizon-noted (got_request r) c e = refl
horizon-noted (got_fetch sender b) c e = refl
horizon-noted timed_out c e = refl
horizon-noted beat c e = refl
horizon-noted (seen_view view sender) c e = refl
horizon-noted (led_from b) c e = refl

pub standing-noted : (n : Note) (c : Chronicle) → is_pruning n ≡ false
    → standing_blocks (noted n ∷ c) ≡ standing_blocks c
unfolding standing_blocks stored_blocks taken_blocks
standing-noted n c e = ap (λ (h : ℕ). standing h (stored_blocks c)) (horizon-noted n c e)

-- a pruning leaves what stands above the new horizon
pub window-pruned : (height : ℕ) (c : Chronicle)
    → standing_blocks (noted (pruned height) ∷ c)
    ≡ standing (horizon (noted (pruned height) ∷ c)) (standing_blocks c)
unfolding standing_blocks stored_blocks taken_blocks
window-pruned height c =
    sym (standing-again (horizon c) (horizon (noted (pruned height) ∷ c)) (map stored_block (taken_blocks c))
    (horizon-rises (noted (pruned height)) c))

-- of no more blocks
pub pruned-fewer : (height : ℕ) (c : Chronicle)
    → length (window (noted (pruned height) ∷ c)) ≤ length (window c)
unfolding window standing_blocks stored_blocks taken_blocks
pruned-fewer height c =
    standing-fewer (horizon c) (horizon (noted (pruned height) ∷ c)) (map stored_block (taken_blocks c))
    (horizon-rises (noted (pruned height)) c)

-- which are a tree
pub pruned-tree : (height : ℕ) (c : Chronicle) → IsTree (horizon c) (window c)
    → IsTree (horizon (noted (pruned height) ∷ c)) (window (noted (pruned height) ∷ c))
unfolding window
pruned-tree height c tr =
    subst (λ (xs : List Stored). IsTree (horizon (noted (pruned height) ∷ c)) (blocks xs))
    (sym (window-pruned height c))
    (standing-tree (horizon c) (horizon (noted (pruned height) ∷ c)) (standing_blocks c)
    (horizon-rises (noted (pruned height)) c) tr)

-- ---- what is taken isn't genesis

not-genesis : (b : Block) (parent : Branch) → b ∷ parent ≡ [] → ⊥
not-genesis b parent e = cc

pub taken-above : (s : Sizes) (c : Chronicle) → IsLawful s c → (a : Admitted) → Among a (taken_blocks c)
    → a.branch ≡ [] → ⊥
unfolding taken_blocks
taken-above s [] l a m e = absurd m
taken-above s (st ∷ c) l a m e =
    elim (taken-now st c a m) [
      | inl now ↦ (
          let law = (subst (λ (x : Step). IsLawfulStep s x c) now.0 l.0).1 now.1 in
          not-genesis law.parent.0 law.parent.1 (sym law.parent.2 ∙ e))
      | inr k ↦ taken-above s c l.1 a k e
    ]

-- ---- the horizon stays low

decided_by-from : (xs : List Admitted) (a : Admitted) → Among a xs → decides a.branch ≡ true
    → Among (just3 a.branch) (decided_by xs)
unfolding decided_by
decided_by-from [] a m d = absurd m
decided_by-from (x ∷ xs) a (inl e) d =
    subst (λ (l : List Branch). Among (just3 a.branch) l)
    (sym (cond-true (decides x.branch) (just3 x.branch ∷ decided_by xs) (decided_by xs)
    (sym (ap (λ (y : Admitted). decides y.branch) e) ∙ d)))
    (inl (ap (λ (y : Admitted). just3 y.branch) e))
decided_by-from (x ∷ xs) a (inr m) d = by (decides x.branch) (decided_by-from xs a m d)
  where
    by : (t : Bool) → Among (just3 a.branch) (decided_by xs)
        → Among (just3 a.branch) (cond t (just3 x.branch ∷ decided_by xs) (decided_by xs))
    by true k = inr k
    by false k = k

-- what was decided stays so
decided-grows : (st : Step) (c : Chronicle) (b : Branch) → Among b (decided c) → Among b (decided (st ∷ c))
unfolding decided
decided-grows st c b m =
    elim (decided-cases c b m) [
      | inl e ↦ Among-after b (decided_by (taken_blocks (st ∷ c))) ([] ∷ []) (inl e)
      | inr r ↦ Among-before b (decided_by (taken_blocks (st ∷ c))) ([] ∷ [])
          (subst (λ (x : Branch). Among x (decided_by (taken_blocks (st ∷ c)))) (sym r.2)
          (decided_by-from (taken_blocks (st ∷ c)) r.0 (taken-grows st c r.0 r.1) r.3))
    ]

-- the height of the last executed block never falls
pub executed-rises : (st : Step) (c : Chronicle) → length (executed c) ≤ length (executed (st ∷ c))
unfolding executed
executed-rises st c =
    highest-above (decided (st ∷ c)) (highest (decided c))
    (decided-grows st c (highest (decided c)) (executed-decided c))

-- the horizon is no higher than it
pub horizon-low : (c : Chronicle) → horizon c ≤ length (executed c)
unfolding horizon
horizon-low [] = omega arith
horizon-low (took_block a ∷ c) =
    let h = horizon-low c in let r = executed-rises (took_block a) c in omega (arith, h, r)
horizon-low (noted (pruned height) ∷ c) =
    let h = horizon-low c in let r = executed-rises (noted (pruned height)) c in omega (arith, h, r)
horizon-low (noted n ∷ c) =
    let h = horizon-low c in let r = executed-rises (noted n) c in omega (arith, h, r)

-- nor is it higher after a step than what was executed before it
pub horizon-before : (st : Step) (c : Chronicle) → horizon (st ∷ c) ≤ length (executed c)
unfolding horizon
horizon-before (took_block a) c = horizon-low c
horizon-before (noted (pruned height)) c = let l = horizon-low c in omega (arith, l)
horizon-before (noted n) c = horizon-low c

-- the last executed block is no higher than the lock
pub executed-locked : (c : Chronicle) → length (executed c) ≤ length (lock c)
unfolding decides
executed-locked c =
    elim (decided-cases c (executed c) (executed-decided c)) [
      | inl e ↦ (let k = ap (λ (x : Branch). length x) e in omega (arith, k))
      | inr r ↦ (
          let k = ap (λ (x : Branch). length x) r.2 in
          let d = eqb-true (length (just2 r.0.branch)) (suc (length (just3 r.0.branch)))
          (and_parts _ _ r.3).0 in
          let l = lock-above c r.0 r.1 in
          omega (arith, k, d, l))
    ]

-- the higher of two certificates is one of them, and no lower than either
pub higher-of : (whole : Bool) (p q : Justified)
    → (length q.block ≤ length (higher whole (Some p) q).block)
    × (length p.block ≤ length (higher whole (Some p) q).block)
higher-of whole p q =
    cond_both (nat_lt (length q.block) (length p.block) || (whole && fills p q)) p q
    (λ (x : Justified). (length q.block ≤ length x.block) × (length p.block ≤ length x.block))
    (λ e. (
      elim (or_cases _ _ e) [
        | inl t ↦ let w = ltb-true (length q.block) (length p.block) t in omega (arith, w)
        | inr f ↦ let same = ap (λ (b : Branch). length b)
            ((branch_eq-decides p.block q.block).0
            (and_parts _ _ (and_parts _ _ (and_parts _ _ f).1).0).1) in omega (arith, same)
      ],
      omega arith,
    ))
    (λ e. (
      omega arith,
      let w = ltb-false (length q.block) (length p.block) (or_parts _ _ e).0 in omega (arith, w),
    ))

-- a certificate that comes never lowers the highest one
pub higher-rises : (whole : Bool) (o : Option Justified) (q : Justified)
    → length q.block ≤ length (higher whole o q).block
higher-rises whole None q = omega arith
higher-rises whole (Some p) q = (higher-of whole p q).0

higher-above : (whole : Bool) (o : Option Justified) (q : Justified) (x : Branch)
    → ((p : Justified) × (o ≡ Some p) × (p.block ≡ x)) → length x ≤ length (higher whole o q).block
higher-above whole o q x (p, e, i) =
    subst (λ (y : Option Justified). length x ≤ length (higher whole y q).block) (sym e)
    (let k = ap (λ (y : Branch). length y) i in let h = (higher-of whole p q).1 in omega (arith, k, h))

-- a step is a lead, or brings a certificate or none
pub qc_high-cases : (s : Sizes) (st : Step) (c : Chronicle)
    → ((b : Branch) × (st ≡ noted (led_from b))) ⊎ (qc_high s (st ∷ c) ≡ higher (comes_whole st) (raised s st c) (qc_high s c))
unfolding qc_high
qc_high-cases s (took_block a) c = inr refl
qc_high-cases s (noted (got_vote voter v b)) c = inr refl
qc_high-cases s (noted (got_new_view view sender q b)) c = inr refl
qc_high-cases s (noted (got_request r)) c = inr refl
qc_high-cases s (noted (got_fetch sender b)) c = inr refl
qc_high-cases s (noted timed_out) c = inr refl
qc_high-cases s (noted beat) c = inr refl
qc_high-cases s (noted (pruned height)) c = inr refl
qc_high-cases s (noted (seen_view view sender)) c = inr refl
qc_high-cases s (noted (led_from b)) c = inl (b, refl)

-- a lead puts the highest certificate on its block
pub led-block : (b : Branch) (q : Justified) → (led b q).block ≡ b
led-block b q =
    cond_both (branch_eq q.block b) q _ (λ (x : Justified). x.block ≡ b)
    (λ e. (branch_eq-decides q.block b).0 e) (λ e. refl)

raised-taken : (s : Sizes) (a : Admitted) (c : Chronicle) → a.new ≡ true
    → raised s (took_block a) c ≡ Some (record { block = just1 a.branch; certificate = a.certificate })
unfolding raised
raised-taken s a c n = cond-true a.new _ _ n

-- what a new block justifies is no higher than the highest certified block
taking-certified : (s : Sizes) (a : Admitted) (c : Chronicle) → a.new ≡ true
    → length (just1 a.branch) ≤ length (qc_high s (took_block a ∷ c)).block
unfolding qc_high
taking-certified s a c n =
    higher-above true (raised s (took_block a) c) (qc_high s c) (just1 a.branch)
    (record { block = just1 a.branch; certificate = a.certificate }, raised-taken s a c n, refl)

-- a lead puts the highest certificate on its block
pub led-high : (s : Sizes) (b : Branch) (c : Chronicle) → (qc_high s (noted (led_from b) ∷ c)).block ≡ b
unfolding qc_high
led-high s b c = led-block b (qc_high s c)

-- a lawful step leaves the highest certified block above what was no higher than it and the lock
high-stays : (s : Sizes) (st : Step) (c : Chronicle) → IsLawfulStep s st c → (n : ℕ) → n ≤ length (lock c)
    → n ≤ length (qc_high s c).block → n ≤ length (qc_high s (st ∷ c)).block
high-stays s st c law n low high =
    elim (qc_high-cases s st c) [
      | inl led ↦
          let own : length (lock c) ≤ length led.0 = subst (λ (x : Step). IsLawfulStep s x c) led.1 law in
          subst (λ (x : Step). n ≤ length (qc_high s (x ∷ c)).block) (sym led.1)
          (let e = ap (λ (b : Branch). length b) (led-high s led.0 c) in omega (arith, e, own, low))
      | inr e ↦
          let r = higher-rises (comes_whole st) (raised s st c) (qc_high s c) in
          let k = ap (λ (q : Justified). length q.block) e in
          omega (arith, r, k, high)
    ]

-- the lock is no higher than the highest certified block
pub lock-certified : (s : Sizes) (c : Chronicle) → IsLawful s c
    → length (lock c) ≤ length (qc_high s c).block
unfolding taken_blocks lock highest
lock-certified s [] l = omega arith
lock-certified s (st ∷ c) l =
    elim (lock-cases (st ∷ c)) [
      | inl e ↦ (let k = ap (λ (x : Branch). length x) e in omega (arith, k))
      | inr r ↦ (
          let k = ap (λ (x : Branch). length x) r.2 in
          elim (taken-now st c r.0 r.1) [
            | inl now ↦ (
                let below = length-extends (just1 r.0.branch) (just2 r.0.branch)
                (subst (λ (x : Branch). Extends (just1 r.0.branch) x) (just2-is r.0.branch)
                (just1-extends (just1 r.0.branch))) in
                let h = subst (λ (x : Step). length (just1 r.0.branch) ≤ length (qc_high s (x ∷ c)).block)
                (sym now.0) (taking-certified s r.0 c now.1) in
                omega (arith, k, below, h))
            | inr m ↦ (
                let old = lock-above c r.0 m in
                let rest = lock-certified s c l.1 in
                let h = high-stays s st c l.0 (length (just2 r.0.branch)) old (omega (arith, old, rest)) in
                omega (arith, k, h))
          ])
    ]

-- so the horizon is no higher than the highest certified block
pub horizon-certified : (s : Sizes) (c : Chronicle) → IsLawful s c → horizon c ≤ length (qc_high s c).block
horizon-certified s c law =
    let h = horizon-low c in
    let e = executed-locked c in
    let l = lock-certified s c law in
    omega (arith, h, e, l)

-- ---- what the rules look at stands in the window

-- a block that is no lower than the highest certified one
pub high-window : (s : Sizes) (c : Chronicle) → IsLawful s c → (x : Branch) → Among x (tree c)
    → length (qc_high s c).block ≤ length x → Among x (window c)
high-window s c law x m l = tree-window c x m (let h = horizon-certified s c law in omega (arith, h, l))

-- the last executed block
pub executed-window : (s : Sizes) (c : Chronicle) → IsLawful s c → Among (executed c) (window c)
executed-window s c law =
    tree-window c (executed c) (executed-tree s c law) (let l = horizon-low c in omega (arith, l))

-- the lock
pub lock-window : (s : Sizes) (c : Chronicle) → IsLawful s c → Among (lock c) (window c)
lock-window s c law =
    tree-window c (lock c) (lock-tree s c law)
    (let l = horizon-low c in let k = executed-locked c in omega (arith, l, k))

-- ---- a replica that never prunes

-- its rules look at all that it ever knew
pub standing-all : (c : Chronicle) → horizon c ≡ 0 → standing_blocks c ≡ stored_blocks c
unfolding standing_blocks
standing-all c z = standing-whole (horizon c) (stored_blocks c) (omega (arith, z))

pub window-all : (c : Chronicle) → horizon c ≡ 0 → window c ≡ tree c
unfolding window tree
window-all c z = ap (λ (xs : List Stored). blocks xs) (standing-all c z)
