-- What a window shows of the executed branch is what the tree finds of it.
use Rattle.std.proofs.Common.{ℕ, ◌≡◌, ◌+◌, ◌||◌, ◌&&◌, Bool, true, false, cond, length}
use Rattle.std.proofs.Common.{refl, sym, ap, ◌∙◌, arith, Option, None, Some}
use Rattle.std.specs.Prelude.{◌==◌, nat_le, option_map}
use Rattle.std.specs.Option.{option_and_then}
use Rattle.std.proofs.lemmas.Bool.{leb-true}
use Rattle.ids.specs.Sizes.{Sizes}
use Rattle.definitions.specs.Lists.{beginning}
use Rattle.definitions.specs.Branches.{Branch}
use Rattle.definitions.specs.Digests.{digest_of}
use Rattle.definitions.specs.Trees.{blocks, find_in, is_in_reach}
use Rattle.definitions.specs.Chronicles.{Chronicle, executed, horizon, standing_blocks, window, IsSound}
use Rattle.definitions.specs.WindowAudit.{shown_at}
use Rattle.definitions.proofs.Held.{executed-tree}
use Rattle.definitions.proofs.Horizons.{horizon-low, tree-window}
use Rattle.definitions.proofs.Lists.{length-beginning}
use Rattle.definitions.proofs.Trees.{found-itself}
use Rattle.replica.specs.Execution.{seen_at}

-- the last executed block is found in the window
found-executed : (sizes : Sizes) (c : Chronicle) → IsSound sizes c
    → find_in (digest_of (executed c)) (blocks (standing_blocks c)) ≡ Some (executed c)
unfolding window
found-executed sizes c so =
    found-itself (horizon c) (window c) so.is_tree (executed c)
    (tree-window c (executed c) (executed-tree sizes c so.lawful)
    (let l = horizon-low c in omega (arith, l)))

-- what is seen of it at a height is shown
seen-shown : (height : ℕ) (c : Chronicle) → seen_at (horizon c) height (executed c) ≡ shown_at height c
unfolding shown_at
seen-shown height c = by (nat_le height (length (executed c))) refl
  where
    b : Branch
    b = beginning height (executed c)

    by : (t : Bool) → nat_le height (length (executed c)) ≡ t
        → cond (nat_le (horizon c) (height + 2) || (height == 0)) (cond t (Some b) None) None
        ≡ cond (t && (is_in_reach (horizon c) b || (height == 0))) (Some b) None
    by true e =
        let n = length-beginning height (executed c) (leb-true height (length (executed c)) e) in
        ap (λ (k : ℕ). cond (nat_le (horizon c) (k + 2) || (height == 0)) (Some b) None) (sym n)
    by false e = either None (nat_le (horizon c) (height + 2) || (height == 0))
      where
        either : (o : Option Branch) (t : Bool) → cond t o o ≡ o
        either o true = refl
        either o false = refl

-- so what the tree finds of the last executed block is what the window shows
pub found-shown : (sizes : Sizes) (c : Chronicle) → IsSound sizes c → (height : ℕ)
    → option_map digest_of (option_and_then (seen_at (horizon c) height)
    (find_in (digest_of (executed c)) (blocks (standing_blocks c))))
    ≡ option_map digest_of (shown_at height c)
found-shown sizes c so height =
    ap (λ (o : Option Branch). option_map digest_of (option_and_then (seen_at (horizon c) height) o))
    (found-executed sizes c so)
    ∙ ap (option_map digest_of) (seen-shown height c)
