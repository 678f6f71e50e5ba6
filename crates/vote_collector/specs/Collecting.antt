-- Votes that are collected, by the digests of the blocks that they are for.
use Rattle.std.specs.Prelude.{ℕ, ◌+◌, ◌==◌, Bool, Option, Some, None, List, [], ◌∷◌, filter, length, nat_lt}
use Rattle.std.specs.Prelude.{if◌then◌else◌}
use Rattle.std.specs.List.{list_any, AllByRecursion}
use Rattle.std.specs.Ordering.{nat_cmp}
use Rattle.std.specs.Cmp.Lexicographic.{slice_cmp}
use Rattle.std.specs.BTreeMap.{insert_entry}
use Rattle.std.specs.Map.{lookup, set_value}
use Rattle.std.specs.Str.{bytes_eq}
use Rattle.ids.specs.Sizes.{Sizes}
use Rattle.definitions.specs.Bytes.{Bytes}
use Rattle.definitions.specs.Frames.{Vote}
use Rattle.definitions.specs.FrameLimits.{IsVote}
use Rattle.definitions.specs.States.{insert_vote}
use Rattle.vote_collector.specs.declared.added.Added.{Added}
use Rattle.vote_collector.specs.declared.added.Added.TheVariants.{First, Doubled, Complete}

-- what is kept of one block: its height, and votes for it by number of voter
pub record Entry : Type 0 where
  pub height : ℕ
  pub votes : List Vote

-- what is kept for each digest, in order of the digests
abbrev pub VotesByDigest : Type 0
VotesByDigest = List (Bytes × Entry)

-- the sizes, and what is kept
pub record Collected : Type 0 where
  pub sizes : Sizes
  pub kept : VotesByDigest

-- what is kept for a digest, if anything
abbrev pub entry_for : Bytes → VotesByDigest → Option Entry
entry_for d kept = lookup (λ x. bytes_eq d x) kept

-- the votes of what is kept of a block
abbrev pub votes_in : Option Entry → List Vote
votes_in None = []
votes_in (Some e) = e.votes

-- the votes that are kept for a digest
abbrev pub votes_for : Bytes → VotesByDigest → List Vote
votes_for d kept = votes_in (entry_for d kept)

-- one of them is of this voter
abbrev pub has_voter : ℕ → List Vote → Bool
has_voter voter votes = list_any (λ b. b.voter == voter) votes

-- what a voter's vote is to these votes, where so many make a quorum
abbrev pub judged : (most : ℕ) → (voter : ℕ) → List Vote → Added
judged most voter votes =
    if has_voter voter votes then Doubled else
    if length votes + 1 == most then Complete else First

-- one more vote for the block of this digest and height, where this was kept of it
abbrev pub with_vote_to : Option Entry → Bytes → ℕ → Vote → VotesByDigest → VotesByDigest
with_vote_to None d height b kept =
    insert_entry (slice_cmp nat_cmp) kept d (record { height = height; votes = b ∷ [] })
with_vote_to (Some e) d height b kept =
    set_value (λ x. bytes_eq d x) kept (record { height = e.height; votes = insert_vote b e.votes })

-- one more vote for the block of this digest and height
abbrev pub with_vote : Bytes → ℕ → Vote → VotesByDigest → VotesByDigest
with_vote d height b kept = with_vote_to (entry_for d kept) d height b kept

-- the votes for blocks above this height
abbrev pub kept_above : ℕ → VotesByDigest → VotesByDigest
kept_above height kept = filter (λ e. nat_lt height e.1.height) kept

-- votes at these sizes
abbrev pub AreVotesOf : Sizes → VotesByDigest → Type 0
AreVotesOf sizes kept = AllByRecursion (λ e. AllByRecursion (IsVote sizes) e.1.votes) kept
