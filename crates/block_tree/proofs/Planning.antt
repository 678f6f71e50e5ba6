-- What is planned for a block, by what it comes to.
use Rattle.std.proofs.Common.{◌≡◌, [], ◌∷◌, Bool, refl, sym, ap, subst, ◌∙◌, inl, Option, Some, None}
use Rattle.std.proofs.Common.{Ok, ℕ, suc, ◌<◌, List, length, arith}
use Rattle.definitions.specs.Bytes.{Bytes}
use Rattle.definitions.specs.Frames.{Core, Certificate}
use Rattle.definitions.specs.Branches.{Branch, just1}
use Rattle.definitions.specs.Digests.{digest, digest_of}
use Rattle.definitions.specs.Trees.{TreeState, blocks, block_of, Placing, Placing.stands, Placing.grows}
use Rattle.definitions.specs.Trees.{Placing.lacks_parent, Placing.unfit, placing}
use Rattle.definitions.proofs.Trees.{IsGrowth, IsPlaced, placed}
use Rattle.block_tree.specs.declared.node.Node.{Node}
use Rattle.block_tree.specs.declared.place.Place.TheVariants as place
use Rattle.block_tree.specs.declared.insert.Plan.TheVariants.{Grows}
use Rattle.block_tree.specs.Nodes.{branch_in, block_in, stored_as, IsNode}
use Rattle.block_tree.specs.Insertions.{place_of, IsNodeFor, IsPlanned, InsertedAt}

module _ (t : TreeState) (core : Core) (q : Certificate) (clear : Bool) where
  pub planned-grows : (n : Node) (p : Placing) → Ok place.Grows ≡ place_of p → IsNodeFor t core q clear n
      → IsPlanned t core q clear (Ok (Grows n)) p
  planned-grows n (stands b) e h = absurd (cc)
  planned-grows n (grows b) e h = h
  planned-grows n lacks_parent e h = absurd (cc)
  planned-grows n (unfit m) e h = absurd (cc)

  -- the node of a new block
  pub node-planned : (n : Node) (p : Placing) → IsPlanned t core q clear (Ok (Grows n)) p
      → IsNodeFor t core q clear n
  node-planned n (stands b) h = absurd (cc)
  node-planned n (grows b) h = h
  node-planned n lacks_parent h = absurd (cc)
  node-planned n (unfit m) h = absurd (cc)

  pub inserted-grown : (n : Node) → (p : Placing) → placing t.horizon t.most core q (blocks t.stored) ≡ p
      → IsPlanned t core q clear (Ok (Grows n)) p
      → InsertedAt t core q clear (Ok n.digest)
      (record {
        most = t.most;
        horizon = t.horizon;
        stored = stored_as n (blocks t.stored) ∷ t.stored;
      }) p
  inserted-grown n (stands b) e h = absurd (cc)
  inserted-grown n (grows b) e h =
      let g =
      subst (IsPlaced t.horizon t.most core q (blocks t.stored)) e (placed t.horizon t.most core q (blocks
      t.stored)) in
      let same : block_in core (blocks t.stored) ≡ b =
      ap (λ (o : Option Branch). block_of core ∷ elim o [ Some b ↦ b | None ↦ [] ]) g.1.parent_found
      ∙ sym g.1.is in
      let branch : block_in n.core (blocks t.stored) ≡ b =
      ap (λ (k : Core). block_in k (blocks t.stored)) h.core ∙ same in
      inl (
        ap (λ (x : Bytes). Ok x) h.digest,
        λ i. record {
          most = t.most;
          horizon = t.horizon;
          stored =
              record { branch = branch i; certificate = h.certificate i; clear = h.clear i } ∷ t.stored;
        },
      )
  inserted-grown n lacks_parent e h = absurd (cc)
  inserted-grown n (unfit m) e h = absurd (cc)

-- ---- the node that is planned

is_growth : (p : Placing) → Ok place.Grows ≡ place_of p → (b : Branch) × (p ≡ grows b)
is_growth (stands b) e = absurd (cc)
is_growth (grows b) e = (b, refl)
is_growth lacks_parent e = absurd (cc)
is_growth (unfit n) e = absurd (cc)

module _ (horizon most : ℕ) (n : Node) (t : List Branch) (named : n.digest ≡ digest n.core)
    (below : n.core.justify_height < n.core.height)
    (answer : Ok place.Grows ≡ place_of (placing horizon most n.core n.certificate t)) where
  at : (b : Branch) × (placing horizon most n.core n.certificate t ≡ grows b)
  at = is_growth _ answer

  grown : (parent : Branch) × IsGrowth horizon most n.core n.certificate t at.0 parent
  grown = subst (IsPlaced horizon most n.core n.certificate t) at.1
      (placed horizon most n.core n.certificate t)

  pub growth-node : IsNode horizon n t
  growth-node =
      let g = grown.1 in
      let low = g.low in
      let height = g.height in
      let same : branch_in n.core.parent t ≡ grown.0 =
      ap (λ (o : Option Branch). elim o [ Some b ↦ b | None ↦ [] ]) g.parent_found in
      record {
        named = named;
        new = g.new;
        parent = g.parent_found ∙ ap (λ (x : Branch). Some x) (sym same);
        height = g.height ∙ ap (λ (x : Branch). suc (length x)) (sym same);
        low = omega (arith, low, height);
        justify = below;
        above = g.above;
        certified = g.justified ∙ ap (λ (x : Branch). digest_of (just1 (block_of n.core ∷ x))) (sym same);
      }

  pub growth-room : length t < most
  growth-room = let room = grown.1.room in room
