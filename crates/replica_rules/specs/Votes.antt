-- Which blocks may be voted for, by the rules and by what is stored in a tree.
use Rattle.std.specs.Prelude.{ℕ, ◌&&◌, ◌||◌, Bool, false, List, length, nat_lt, Some, None}
use Rattle.definitions.specs.Bytes.{Bytes}
use Rattle.definitions.specs.Branches.{justify_height}
use Rattle.definitions.specs.Frames.{Core}
use Rattle.definitions.specs.Trees.{Stored, blocks, find_in}
use Rattle.block_tree.specs.Finding.{extends_in, clear_above_in}
use Rattle.replica_rules.specs.declared.candidate.Candidate.{Candidate}
use Rattle.replica_rules.specs.Ruled.{Ruled}

-- by height and lock: a block of this height that justifies one of this height, on the branch of this digest
abbrev pub is_safe_in : Ruled → Bytes → ℕ → ℕ → List Stored → Bool
is_safe_in r d height justified stored =
    nat_lt r.vheight height && (extends_in d r.lock.digest (blocks stored) || nat_lt r.lock.height justified)

-- the same with the clear marks of that branch above the justified block
abbrev pub may_vote_at : Ruled → Bytes → ℕ → ℕ → List Stored → Bool
may_vote_at r d height justified stored =
    is_safe_in r d height justified stored && clear_above_in d justified stored

-- the block of this digest, if it stands in the tree
abbrev pub may_vote_in : Ruled → Bytes → List Stored → Bool
may_vote_in r d stored = elim (find_in d (blocks stored)) [
  | Some b ↦ may_vote_at r d (length b) (justify_height b) stored
  | None ↦ false
]

-- a block that is put on its parent
abbrev pub may_vote_over : Ruled → Candidate → List Stored → Bool
may_vote_over r k stored = k.clear && may_vote_at r k.parent k.height k.justify_height stored

-- a core with its clear mark, as it is asked about
abbrev pub candidate_of : Core → Bool → Candidate
candidate_of core clear = record {
  parent = core.parent;
  height = core.height;
  justify_height = core.justify_height;
  clear = clear;
}
