-- Whether a block or one between it and the one that it justifies justifies one below a lock.
use Rattle.std.proofs.Common.{ℕ, suc, ◌≡◌, ◌<◌, ◌≤◌, Bool, true, false, List, ◌∷◌, length, refl, sym, ap}
use Rattle.std.proofs.Common.{◌∙◌, arith, inl, inr, Option, Some, None, not}
use Rattle.std.specs.Prelude.{option_map, nat_le, ◌&&◌}
use Rattle.std.proofs.lemmas.Option.{same_Some}
use Rattle.std.proofs.lemmas.Bool.{le-ltb, lt-ltb, cond-true, cond-false, le-leb, lt-leb}
use Rattle.definitions.specs.Branches.{Block, Branch, just1, just2, justify_height}
use Rattle.definitions.specs.Frames.{Core}
use Rattle.definitions.specs.Trees.{blocks, find_in, block_of}
use Rattle.definitions.specs.Chronicles.{Chronicle, executed, horizon, lock, standing_blocks, window}
use Rattle.definitions.proofs.Branches.{just1-extends, just3-is, length-extends}
use Rattle.definitions.proofs.Chronicles.{executed-decided, decided-cases, lock-above}
use Rattle.definitions.proofs.Horizons.{horizon-low}
use Rattle.definitions.specs.Careful.{justifies_from, is_careful}
use Rattle.block_tree.specs.Finding.{justifies_in}
use Rattle.replica.specs.Careful.{is_careless, justifies_below}

-- the horizon is no higher than the lock
pub horizon-locked : (c : Chronicle) → horizon c ≤ length (lock c)
horizon-locked c =
    let low = horizon-low c in
    elim (decided-cases c (executed c) (executed-decided c)) [
      | inl e ↦ (let z = ap (λ (x : Branch). length x) e in omega (arith, low, z))
      | inr a ↦ (
          let above = lock-above c a.0 a.1 in
          let under = length-extends (just2 a.0.branch) (just1 (just2 a.0.branch)) (just1-extends (just2 a.0.branch)) in
          let same = ap (λ (x : Branch). length x) (just3-is a.0.branch) in
          let z = ap (λ (x : Branch). length x) a.2 in
          omega (arith, low, above, under, same, z))
    ]

-- a block on its parent
over : (least : ℕ) (b : Block) (parent : Branch) → b.justify ≤ length parent
    → justifies_from least b.justify (b ∷ parent) ≡ nat_le least b.justify && justifies_from least b.justify parent
unfolding justifies_from
over least b parent le = cond-true _ _ _ (lt-ltb b.justify (suc (length parent)) (omega (arith, le)))

beside : (least : ℕ) (b : Block) (parent : Branch) → length parent < b.justify
    → justifies_from least b.justify (b ∷ parent) ≡ true
unfolding justifies_from
beside least b parent le = cond-false _ _ _ (le-ltb b.justify (suc (length parent)) (omega (arith, le)))

module _ (least : ℕ) (core : Core) (tree : List Branch) where
  told : Option Branch → Bool
  told o = elim o
      [ Some parent ↦ not (justifies_from least core.justify_height (block_of core ∷ parent)) | None ↦ false ]

  pub unknown : None ≡ option_map length (find_in core.parent tree) → false ≡ justifies_below least core tree
  unfolding told
  unknown e = go (find_in core.parent tree) e
    where
      go : (o : Option Branch) → None ≡ option_map length o → false ≡ told o
      go None k = refl
      go (Some x) k = absurd (cc)

  pub above-parent : (h : ℕ) → Some h ≡ option_map length (find_in core.parent tree) → h < core.justify_height
      → false ≡ justifies_below least core tree
  unfolding told
  above-parent h e l = go (find_in core.parent tree) e
    where
      go : (o : Option Branch) → Some h ≡ option_map length o → false ≡ told o
      go None k = absurd (cc)
      go (Some x) k =
          let n = same_Some h (length x) k in
          sym (ap not (beside least (block_of core) x (omega (arith, n, l))))

  pub below-lock : (h : ℕ) → Some h ≡ option_map length (find_in core.parent tree) → core.justify_height ≤ h
      → core.justify_height < least → true ≡ justifies_below least core tree
  unfolding told
  below-lock h e l k = go (find_in core.parent tree) e
    where
      go : (o : Option Branch) → Some h ≡ option_map length o → true ≡ told o
      go None i = absurd (cc)
      go (Some x) i =
          let n = same_Some h (length x) i in
          sym (ap not (over least (block_of core) x (omega (arith, n, l))
          ∙ ap (λ (b : Bool). b && justifies_from least core.justify_height x) (lt-leb least core.justify_height k)))

  pub by-branch : (h : ℕ) → Some h ≡ option_map length (find_in core.parent tree) → core.justify_height ≤ h
      → least ≤ core.justify_height
      → not (justifies_in least core.justify_height core.parent tree) ≡ justifies_below least core tree
  unfolding told
  by-branch h e l k = go (find_in core.parent tree) e
    where
      go : (o : Option Branch) → Some h ≡ option_map length o
          → not (elim o [ Some b ↦ justifies_from least core.justify_height b | None ↦ false ]) ≡ told o
      go None i = absurd (cc)
      go (Some x) i =
          let n = same_Some h (length x) i in
          sym (ap not (over least (block_of core) x (omega (arith, n, l))
          ∙ ap (λ (b : Bool). b && justifies_from least core.justify_height x) (le-leb least core.justify_height k)))

-- what is asked over the lock is what is careless
pub careless-is : (core : Core) (c : Chronicle)
    → justifies_below (length (lock c)) core (blocks (standing_blocks c)) ≡ is_careless core c
unfolding is_careful justify_height window
careless-is core c = refl
