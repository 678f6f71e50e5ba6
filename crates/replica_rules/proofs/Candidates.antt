-- A new block over its parent in a tree that doesn't have it.
use Rattle.std.proofs.Common.{ℕ, suc, ◌≡◌, ◌<◌, ◌&&◌, Bool, true, List, [], ◌∷◌, length, cond, refl}
use Rattle.std.proofs.Common.{sym, ap, subst, ◌∙◌, arith, inl, inr, nat_lt}
use Rattle.std.proofs.lemmas.Bool.{lt-ltb}
use Rattle.definitions.specs.Branches.{Block, Branch, extends, branch_eq, justify_height, just1}
use Rattle.definitions.specs.Digests.{digest_of}
use Rattle.definitions.specs.Frames.{Core, Certificate}
use Rattle.definitions.specs.Lists.{Among}
use Rattle.definitions.specs.Trees.{Stored, blocks, block_of, is_clear, clear_above, Placing, Placing.grows}
use Rattle.definitions.specs.Trees.{placing, IsTree}
use Rattle.definitions.proofs.Branches.{extends-true, extends-from, extends-cases, Extends-trans}
use Rattle.definitions.proofs.Branches.{branch_eq-decides, just1-extends, justify_height-just1}
use Rattle.definitions.proofs.Trees.{IsGrowth, IsPlaced, placed, tree-below, growth-tree}
use Rattle.block_tree.proofs.Extends.{both_ways}
use Rattle.block_tree.proofs.Clear.{branch-differs, passed, counts, absent-clear}
use Rattle.replica_rules.specs.Ruled.{ref_of}

-- it extends what its parent does, but for itself
pub extends-over : (b : Block) (parent x : Branch) → (x ≡ b ∷ parent → ⊥)
    → extends (b ∷ parent) x ≡ extends parent x
extends-over b parent x differs =
    both_ways (extends (b ∷ parent) x) (extends parent x)
    (λ h. elim (extends-cases b parent x (extends-true (b ∷ parent) x h)) [
      | inl e ↦ absurd (differs e)
      | inr k ↦ extends-from parent x k
    ])
    (λ h. extends-from (b ∷ parent) x
    (Extends-trans (b ∷ parent) parent x (b ∷ [], refl) (extends-true parent x h)))

-- ---- clear marks

-- a higher block says nothing of the clear marks of a branch
clear_below : (h : ℕ) (p : Branch) (s : Stored) (all : List Stored) → length p < length s.branch
    → clear_above h p (s ∷ all) ≡ clear_above h p all
unfolding clear_above is_clear
clear_below h [] s all lt = refl
clear_below h (b ∷ p) s all lt =
    let other : s.branch ≡ b ∷ p → ⊥ =
    λ e. (let k = ap (λ (x : Branch). length x) e in omega (arith, k, lt)) in
    let mark =
    passed s.clear (branch_eq s.branch (b ∷ p)) (is_clear (b ∷ p) all)
    (branch-differs s.branch (b ∷ p) other) in
    let rest = clear_below h p s all (omega (arith, lt)) in
    λ i. cond (nat_lt h (suc (length p))) (mark i && rest i) true

-- it is clear where its own mark is and its parent's branch
pub clear-over : (b : Block) (parent : Branch) (q : Certificate) (clear : Bool) (all : List Stored)
    → b.justify < suc (length parent) → (Among (b ∷ parent) (blocks all) → ⊥)
    → clear_above b.justify (b ∷ parent)
    (record { branch = b ∷ parent; certificate = q; clear = clear } ∷ all)
    ≡ (clear && clear_above b.justify parent all)
unfolding clear_above is_clear
clear-over b parent q clear all lt absent =
    let s : Stored = record { branch = b ∷ parent; certificate = q; clear = clear } in
    let mark =
    counts clear (branch_eq (b ∷ parent) (b ∷ parent)) (is_clear (b ∷ parent) all)
    ((branch_eq-decides (b ∷ parent) (b ∷ parent)).1 refl) (absent-clear (b ∷ parent) all absent) in
    let low : length parent < length s.branch = omega arith in
    let rest = clear_below b.justify parent s all low in
    (rw (lt-ltb b.justify (suc (length parent)) lt) refl) ∙ (λ i. mark i && rest i)

-- ---- a block that the tests let stand

pub grown : (horizon most : ℕ) (core : Core) (q : Certificate) (t : List Branch) (b : Branch)
    → placing horizon most core q t ≡ grows b → (parent : Branch) × IsGrowth horizon most core q t b parent
grown horizon most core q t b e =
    subst (λ (p : Placing). IsPlaced horizon most core q t p) e (placed horizon most core q t)

justify_of : (core : Core) (parent : Branch) → justify_height (block_of core ∷ parent) ≡ core.justify_height
unfolding justify_height
justify_of core parent = refl

module _ (horizon most : ℕ) (core : Core) (q : Certificate) (t : List Branch) (b parent : Branch)
    (tr : IsTree horizon t) (below : core.justify_height < core.height)
    (g : IsGrowth horizon most core q t b parent) where
  pub justified-height : length (just1 b) ≡ core.justify_height
  justified-height =
      justify_height-just1 b ((growth-tree horizon most core q t b parent tr below g).branches b (inl refl))
      ∙ (ap justify_height g.is ∙ justify_of core parent)

  -- what it justifies stands in the tree
  pub just1-among : Among (just1 b) t
  just1-among = elim (tree-below horizon (b ∷ t) (growth-tree horizon most core q t b parent tr below g) b
      (just1 b) (inl refl) (just1-extends b)
      (let above = g.above in omega (arith, justified-height, above))) [
        | inl e ↦ absurd (
            let k = ap (λ (x : Branch). length x) e in
            let i : length b ≡ suc (length parent) = ap (λ (x : Branch). length x) g.is in
            omega (arith, k, i, justified-height, below, g.height))
        | inr m ↦ m
      ]

  -- and is named by certificate and core
  pub just1-named : ref_of (just1 b) ≡ record { digest = q.digest; height = core.justify_height }
  just1-named =
      let d : digest_of (just1 b) ≡ q.digest =
      ap (λ (x : Branch). digest_of (just1 x)) g.is ∙ sym g.justified in
      λ i. record { digest = d i; height = justified-height i }
