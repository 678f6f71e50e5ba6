-- What a chronicle's tree holds: the blocks that are stored, the lock and the last executed block.
use Rattle.std.proofs.Common.{◌≡◌, ◌⊎◌, [], refl, sym, subst, inl, inr}
use Rattle.definitions.proofs.Branches.{just1-extends, just3-below, Extends-trans}
use Rattle.definitions.proofs.Chronicles.{tree-genesis, taken-tree, tree-extends, lock-cases, decided-cases}
use Rattle.definitions.proofs.Chronicles.{executed-decided}
use Rattle.ids.specs.Sizes.{Sizes}
use Rattle.definitions.specs.Lists.{Among}
use Rattle.definitions.specs.Branches.{Branch, just1, just2, just3, Extends}
use Rattle.definitions.specs.Trees.{blocks}
use Rattle.definitions.specs.Chronicles.{Admitted, Chronicle, taken_blocks, stored_blocks, tree, lock}
use Rattle.definitions.specs.Chronicles.{executed, IsLawful}

-- the branches of what is stored are the tree
pub blocks-stored : (c : Chronicle) → blocks (stored_blocks c) ≡ tree c
unfolding tree
blocks-stored c = refl

just2-extends : (b : Branch) → Extends b (just2 b)
unfolding just2
just2-extends b = Extends-trans b (just1 b) (just1 (just1 b)) (just1-extends b) (just1-extends (just1 b))

-- the lock stands in the tree
pub lock-tree : (s : Sizes) (c : Chronicle) → IsLawful s c → Among (lock c) (tree c)
lock-tree s c l =
    elim (lock-cases c) [
      | inl e ↦ subst (λ (x : Branch). Among x (tree c)) (sym e) (tree-genesis c)
      | inr r ↦ subst (λ (x : Branch). Among x (tree c)) (sym r.2)
          (tree-extends s c l r.0.branch (just2 r.0.branch) (taken-tree c r.0 r.1)
          (just2-extends r.0.branch))
    ]

-- what was executed was decided by a taken block, unless it is genesis
pub executed-cases : (c : Chronicle)
    → (executed c ≡ []) ⊎ ((a : Admitted) × Among a (taken_blocks c) × (executed c ≡ just3 a.branch))
executed-cases c =
    elim (decided-cases c (executed c) (executed-decided c)) [ inl e ↦ inl e | inr r ↦ inr (r.0, r.1, r.2) ]

-- the last executed block stands in the tree
pub executed-tree : (s : Sizes) (c : Chronicle) → IsLawful s c → Among (executed c) (tree c)
executed-tree s c l =
    elim (executed-cases c) [
      | inl e ↦ subst (λ (x : Branch). Among x (tree c)) (sym e) (tree-genesis c)
      | inr r ↦ subst (λ (x : Branch). Among x (tree c)) (sym r.2)
          (tree-extends s c l r.0.branch (just3 r.0.branch) (taken-tree c r.0 r.1)
          (Extends-trans r.0.branch (just1 r.0.branch) (just3 r.0.branch) (just1-extends r.0.branch)
          (just3-below r.0.branch)))
    ]
