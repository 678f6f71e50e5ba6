-- The digests that a replica stores stand for its branches.
use Rattle.std.proofs.Common.{◌≡◌, true, [], ◌∷◌, sym, ap, subst, ◌∙◌, arith, inl, inr}
use Rattle.ids.specs.Sizes.{Sizes}
use Rattle.definitions.specs.Bytes.{Bytes}
use Rattle.definitions.specs.Lists.{Among}
use Rattle.definitions.specs.Branches.{Branch, just1}
use Rattle.definitions.specs.Digests.{digest_of, core_of, StandsFor, AllKnown}
use Rattle.definitions.specs.Chronicles.{Admitted, Step.took_block, Chronicle, taken_blocks, tree, IsLawful}
use Rattle.definitions.proofs.Digests.{stands_for-from}
use Rattle.definitions.proofs.Chronicles.{taken-now, tree-taken, tree-parent, tree-just1}
use Rattle.audit_ground.specs.Law.{KnownIn, IsNamed, IsStored, StoredBlocksAreNamed}

-- a taken block was admitted, as a new one
pub taken-took : (a : Admitted) (c : Chronicle) → Among a (taken_blocks c)
    → Among (took_block a) c × (a.new ≡ true)
unfolding taken_blocks
taken-took a [] m = absurd m
taken-took a (s ∷ c) m =
    elim (taken-now s c a m) [
      | inl now ↦ (inl (sym now.0), now.1)
      | inr k ↦ let r = taken-took a c k in (inr r.0, r.1)
    ]

-- from here on: a lawful chronicle, whose blocks are stored
module _ (sizes : Sizes) (c : Chronicle) (lawful : IsLawful sizes c)
    (stored : (a : Admitted) → Among (took_block a) c → IsStored c a) where
  -- each core of the tree is known
  tree-known : (b : Branch) → Among b (tree c) → AllKnown (KnownIn c) b
  tree-known [] m = tt
  tree-known (x ∷ parent) m =
      let t = tree-taken c (x ∷ parent) m (omega arith) in
      let k = taken-took t.0 c t.1 in (
        inr (t.0, k.0, (stored t.0 k.0).own k.1 ∙ ap core_of t.2),
        tree-known parent (tree-parent sizes c lawful x parent m),
      )

  -- so the digest of a block of the tree stands for it
  tree-stands : (d : Bytes) (b : Branch) → d ≡ digest_of b → Among b (tree c) → StandsFor (KnownIn c) d b
  tree-stands d b e m = subst (λ (x : Bytes). StandsFor (KnownIn c) x b) (sym e)
      (stands_for-from (KnownIn c) b (tree-known b m))

  -- each block that was admitted is named
  took-named : (a : Admitted) → Among (took_block a) c → IsNamed (KnownIn c) a
  took-named a m =
      let s = stored a m in
      record {
        block = tree-stands _ a.branch s.named s.stands;
        justified =
            tree-stands _ (just1 a.branch) s.justified (tree-just1 sizes c lawful a.branch s.stands);
      }

-- the law of this name
pub stored-blocks_are_named : StoredBlocksAreNamed
stored-blocks_are_named sizes c lawful stored =
    record { lawful = lawful; named = took-named sizes c lawful stored }
