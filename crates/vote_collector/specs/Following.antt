-- Whose votes a collector keeps.
use Rattle.std.specs.Prelude.{◌≡◌, ℕ, ◌<◌, List, [], length}
use Rattle.std.specs.List.{AllByRecursion}
use Rattle.ids.specs.Sizes.{Sizes, quorum}
use Rattle.definitions.specs.Bytes.{Bytes}
use Rattle.definitions.specs.Lists.{Among}
use Rattle.definitions.specs.Frames.{Vote}
use Rattle.definitions.specs.Branches.{Branch}
use Rattle.definitions.specs.Digests.{digest_of}
use Rattle.definitions.specs.Chronicles.{Chronicle, tree}
use Rattle.definitions.specs.States.{votes, by_voter, qc_high}
use Rattle.vote_collector.specs.Collecting.{Entry, VotesByDigest, votes_for}

-- the height of the highest certificate
abbrev pub certified : Sizes → Chronicle → ℕ
certified s c = length (qc_high s c).block

-- these are all votes for this block, and they are no quorum
pub record AreCollected (s : Sizes) (c : Chronicle) (kept : List Vote) (b : Branch) : Type 0 where
  pub same : kept ≡ by_voter (votes s b c)
  pub few : length (votes s b c) < quorum s

-- what is kept for a digest is of a block of the tree, above the highest certificate's
pub record IsOfBlock (s : Sizes) (c : Chronicle) (d : Bytes) (e : Entry) : Type 0 where
  pub block : Branch
  pub among : Among block (tree c)
  pub its_digest : digest_of block ≡ d
  pub its_height : e.height ≡ length block
  pub higher : certified s c < length block

-- These are the votes that a replica of this chronicle may need again: all that it has for each block above
-- its highest certificate's, and no others. For a block that isn't in the tree there are none.
pub record IsVotesOf (s : Sizes) (c : Chronicle) (kept : VotesByDigest) : Type 0 where
  pub above : (b : Branch) → Among b (tree c) → certified s c < length b
      → AreCollected s c (votes_for (digest_of b) kept) b
  pub alone : AllByRecursion (λ e. IsOfBlock s c e.0 e.1) kept
  pub unknown : (b : Branch) → (Among b (tree c) → ⊥) → votes s b c ≡ []
