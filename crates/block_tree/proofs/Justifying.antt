-- What the blocks of a branch justify, step by step down the branch.
use Rattle.std.proofs.Common.{ℕ, suc, ◌≡◌, ◌<◌, ◌≤◌, Bool, true, false, List, [], ◌∷◌, length, refl, sym, ap}
use Rattle.std.proofs.Common.{◌∙◌, arith, Option, Some, None, ◌+◌}
use Rattle.std.specs.Prelude.{option_map, nat_le, ◌&&◌}
use Rattle.std.proofs.lemmas.Option.{same_Some}
use Rattle.std.proofs.lemmas.Bool.{le-ltb, lt-ltb, cond-true, cond-false, le-leb, lt-leb}
use Rattle.definitions.specs.Bytes.{Bytes}
use Rattle.definitions.specs.Branches.{Block, Branch, justify_height}
use Rattle.definitions.specs.Trees.{Stored, blocks, find_in, IsTree}
use Rattle.definitions.specs.Careful.{justifies_from}
use Rattle.block_tree.specs.Finding.{NodeParts, kept_of, stored_in, justifies_in}
use Rattle.block_tree.specs.Nodes.{Once}
use Rattle.block_tree.proofs.Found.{some-kept, core-justify}
use Rattle.block_tree.proofs.Steps.{IsStep, step, next_step, below}

-- the newest block is asked first
justifies-here : (least height : ℕ) (b : Block) (parent : Branch) → height < suc (length parent)
    → justifies_from least height (b ∷ parent) ≡ nat_le least b.justify && justifies_from least height parent
unfolding justifies_from
justifies-here least height b parent lt = cond-true _ _ _ (lt-ltb height (suc (length parent)) lt)

-- where no block is above the height
justifies-end : (least height : ℕ) (x : Branch) → length x ≤ height → true ≡ justifies_from least height x
unfolding justifies_from
justifies-end least height [] le = refl
justifies-end least height (b ∷ parent) le = sym (cond-false _ _ _ (le-ltb height (suc (length parent)) le))

pub justifies-none : (stored : List Stored) (d : Bytes) (least k height : ℕ)
    → option_map length (find_in d (blocks stored)) ≡ Some k → k ≤ height
    → true ≡ justifies_in least height d (blocks stored)
justifies-none stored d least k height len le = go (find_in d (blocks stored)) len
  where
    go : (o : Option Branch) → option_map length o ≡ Some k
        → true ≡ elim o [ Some b ↦ justifies_from least height b | None ↦ false ]
    go None l = absurd (cc)
    go (Some x) l = let n = same_Some (length x) k l in justifies-end least height x (omega (arith, n, le))

own-justify : (b : Block) (parent : Branch) → justify_height (b ∷ parent) ≡ b.justify
unfolding justify_height
own-justify b parent = refl

module _ (stored : List Stored) (once : Once stored) (d : Bytes) (kept : NodeParts)
    (is : Some kept ≡ option_map kept_of (stored_in d stored)) (least k height : ℕ)
    (len : option_map length (find_in d (blocks stored)) ≡ Some k) (lt : height < k) where
  own : IsStep stored d kept.core.parent k
  own = step stored once d kept is k height len lt

  justified : own.block.justify ≡ kept.core.justify_height
  justified =
      let r = some-kept d stored kept is in
      let branch : r.0.branch ≡ own.block ∷ own.parent = same_Some _ _ (sym r.2 ∙ own.found) in
      sym (own-justify own.block own.parent) ∙ (ap justify_height (sym branch)
      ∙ (sym (core-justify r.0.branch) ∙ ap (λ (x : NodeParts). x.core.justify_height) r.3))

  here : justifies_in least height d (blocks stored)
      ≡ nat_le least kept.core.justify_height && justifies_from least height own.parent
  here =
      ap (λ (o : Option Branch). elim o [ Some b ↦ justifies_from least height b | None ↦ false ]) own.found
      ∙ (justifies-here least height own.block own.parent (omega (arith, own.count, lt))
      ∙ ap (λ (j : ℕ). nat_le least j && justifies_from least height own.parent) justified)

  pub walk-below : kept.core.justify_height < least → false ≡ justifies_in least height d (blocks stored)
  walk-below e = sym (here
      ∙ ap (λ (c : Bool). c && justifies_from least height own.parent) (lt-leb least kept.core.justify_height e))

  passed : least ≤ kept.core.justify_height
      → justifies_in least height d (blocks stored) ≡ justifies_from least height own.parent
  passed e = here
      ∙ ap (λ (c : Bool). c && justifies_from least height own.parent) (le-leb least kept.core.justify_height e)

  -- the last block
  pub walk-end : least ≤ kept.core.justify_height → k ≤ height + 1
      → justifies_in least height d (blocks stored) ≡ true
  walk-end e last = passed e ∙ sym (justifies-end least height own.parent (omega (arith, own.count, last)))

-- or there are others below, in reach
module _ (horizon : ℕ) (stored : List Stored) (tr : IsTree horizon (blocks stored)) (once : Once stored)
    (d : Bytes) (kept : NodeParts) (is : Some kept ≡ option_map kept_of (stored_in d stored))
    (least k height : ℕ) (len : option_map length (find_in d (blocks stored)) ≡ Some k) (lt : height < k) where
  pub walk-on : least ≤ kept.core.justify_height → horizon ≤ k + 1
      → justifies_in least height kept.core.parent (blocks stored) ≡ justifies_in least height d (blocks stored)
  unfolding own next_step
  walk-on e reach =
      ap (λ (o : Option Branch). elim o [ Some b ↦ justifies_from least height b | None ↦ false ])
      (below horizon stored tr once d kept is k height len lt reach)
      ∙ sym (passed stored once d kept is least k height len lt e)
