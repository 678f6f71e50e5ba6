-- Lock and last executed block stand among what is stored, so the tree finds them.
use Rattle.std.proofs.Common.{ℕ, ◌≡◌, false, List, ap, ◌∙◌, Option, Some, None}
use Rattle.definitions.specs.Bytes.{Bytes}
use Rattle.definitions.specs.Lists.{Among}
use Rattle.ids.specs.Sizes.{Sizes}
use Rattle.definitions.specs.Branches.{Branch, extends}
use Rattle.definitions.specs.Digests.{digest_of}
use Rattle.definitions.specs.Chronicles.{Chronicle, horizon, standing_blocks, window, lock, executed}
use Rattle.definitions.specs.Chronicles.{IsSound}
use Rattle.definitions.specs.Trees.{TreeState, Stored, blocks, find_in, clear_above, IsTree}
use Rattle.definitions.proofs.Trees.{found-itself}
use Rattle.definitions.proofs.Horizons.{lock-window, executed-window}
use Rattle.block_tree.specs.Finding.{extends_in, clear_above_in}

-- what is stored makes a tree at a horizon, in which lock and last executed block stand
pub record Holds (horizon : ℕ) (all : List Stored) (c : Chronicle) : Type 0 where
  pub is_tree : IsTree horizon (blocks all)
  pub lock : Among (lock c) (blocks all)
  pub executed : Among (executed c) (blocks all)

-- so it is of a chronicle's own window
pub sound-holds : (sizes : Sizes) (c : Chronicle) → IsSound sizes c → Holds (horizon c) (standing_blocks c) c
unfolding window
sound-holds sizes c s = record {
  is_tree = s.is_tree;
  lock = lock-window sizes c s.lawful;
  executed = executed-window sizes c s.lawful;
}

pub lock-found : (horizon : ℕ) (all : List Stored) (c : Chronicle) → Holds horizon all c
    → find_in (digest_of (lock c)) (blocks all) ≡ Some (lock c)
lock-found horizon all c h = found-itself horizon (blocks all) h.is_tree (lock c) h.lock

pub executed-found : (horizon : ℕ) (all : List Stored) (c : Chronicle) → Holds horizon all c
    → find_in (digest_of (executed c)) (blocks all) ≡ Some (executed c)
executed-found horizon all c h = found-itself horizon (blocks all) h.is_tree (executed c) h.executed

-- where both stand in the tree, their branches decide
pub extends-found : (a b : Bytes) (t : List Branch) (x y : Branch) → find_in a t ≡ Some x
    → find_in b t ≡ Some y → extends_in a b t ≡ extends x y
extends-found a b t x y f g =
    ap (λ (o : Option Branch). elim o
    [ Some x ↦ elim (find_in b t) [ Some y ↦ extends x y | None ↦ false ] | None ↦ false ]) f
    ∙ ap (λ (o : Option Branch). elim o [ Some y ↦ extends x y | None ↦ false ]) g

pub clear-found : (d : Bytes) (height : ℕ) (all : List Stored) (b : Branch) → find_in d (blocks all) ≡ Some b
    → clear_above_in d height all ≡ clear_above height b all
clear-found d height all b f =
    ap (λ (o : Option Branch). elim o [ Some b ↦ clear_above height b all | None ↦ false ]) f
