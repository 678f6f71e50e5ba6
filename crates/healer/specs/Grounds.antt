-- What a leader leads from, by digests.
use Rattle.std.specs.Prelude.{ℕ, ◌≡◌, List, Some, map, length}
use Rattle.definitions.specs.Branches.{Branch}
use Rattle.definitions.specs.Bytes.{Bytes}
use Rattle.definitions.specs.Chronicles.{Chronicle, horizon}
use Rattle.definitions.specs.Digests.{digest_of}
use Rattle.definitions.specs.States.{find_block}
use Rattle.definitions.specs.Worlds.{World}
use Rattle.recovery.specs.Correct.{lock_of}
use Rattle.recovery.specs.Healing.{lowest_first, over_lock}

-- a leader's lock, and the height of what justifies it with the digests of that and of all below it, the lowest first
pub record IsGround (l : ℕ) (lock : Bytes) (height : ℕ) (digests : List Bytes) (w : World) : Type 0 where
  pub locked : lock ≡ digest_of (lock_of w l)
  pub high : height ≡ length (over_lock l w)
  pub below : digests ≡ map digest_of (lowest_first (over_lock l w))

-- A replica of this chronicle has forgotten no block, and has this one, by its digest and of this height.
pub record HasWhole (c : Chronicle) (d : Bytes) (top : ℕ) (x : Branch) : Type 0 where
  pub found : find_block d c ≡ Some x
  pub high : length x ≡ top
  pub whole : horizon c ≡ 0
