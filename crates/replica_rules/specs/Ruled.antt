-- What a replica keeps of its chronicle to vote, lock and decide.
use Rattle.ids.specs.declared.fault.Fault.{Fault}
use Rattle.std.specs.Prelude.{ℕ, ◌≡◌, Bool, true, false, ◌∷◌, length, max, if◌then◌else◌, Result, Ok, Err}
use Rattle.definitions.specs.Lists.{Among}
use Rattle.replica_rules.specs.declared.block_ref.BlockRef.{BlockRef}
use Rattle.definitions.specs.Digests.{digest_of}
use Rattle.definitions.specs.Branches.{Branch}
use Rattle.definitions.specs.Chronicles.{Admitted, Step.took_block, Chronicle, vheight, lock, executed}
use Rattle.definitions.specs.Rulings.{conflicts}
use Rattle.definitions.specs.Trees.{TreeState, blocks, IsTree}

-- the voted height, the lock and the last executed block
pub record Ruled : Type 0 where
  pub vheight : ℕ
  pub lock : BlockRef
  pub executed : BlockRef

-- the reference to a block
abbrev pub ref_of : Branch → BlockRef
ref_of b = record { digest = digest_of b; height = length b }

-- they are those of the whole chronicle
abbrev pub ruled_by : Chronicle → Ruled
ruled_by c = record { vheight = vheight c; lock = ref_of (lock c); executed = ref_of (executed c) }

-- after a vote for a block of this height, if one was given
abbrev pub with_vote : Bool → ℕ → Ruled → Ruled
with_vote given height r = record r { vheight = if given then max height r.vheight else r.vheight }
