-- How what is kept follows the chronicle of its replica.
use Rattle.std.specs.Prelude.{◌≡◌, ℕ, ◌<◌, ◌≤◌, Some, [], ◌∷◌, length, ⊤}
use Rattle.ids.specs.Sizes.{Sizes, quorum}
use Rattle.definitions.specs.Bytes.{Bytes}
use Rattle.definitions.specs.Frames.{Vote, Certificate}
use Rattle.definitions.specs.Branches.{Branch}
use Rattle.definitions.specs.Trees.{find_in, IsTree}
use Rattle.definitions.specs.Chronicles.{Chronicle, Step, Step.noted, Note.got_vote, Note.led_from, horizon}
use Rattle.definitions.specs.Chronicles.{window, IsLawful}
use Rattle.definitions.specs.States.{Justified, qc_high, insert_vote}
use Rattle.vote_collector.specs.declared.added.Added.TheVariants.{First, Doubled, Complete}
use Rattle.vote_collector.specs.Collecting.{VotesByDigest, votes_for, judged, with_vote, kept_above}
use Rattle.vote_collector.specs.Following.{IsVotesOf, certified}

-- the certificate that a vote makes with those that are kept for its digest
abbrev pub made_with : Bytes → Vote → VotesByDigest → Certificate
made_with d vote kept = record { digest = d; votes = insert_vote vote (votes_for d kept) }

-- what is kept is that of a chronicle, whose highest certificate is this one
abbrev pub Leaves : Sizes → Chronicle → VotesByDigest → Justified → Type 0
Leaves s c kept q = IsVotesOf s c kept × (qc_high s c ≡ q)

-- What comes of a vote for the block b of digest d, by its height and what it is to the votes that are
-- kept: where it is no higher than the highest certificate's block, or doubled, nothing changes; a first
-- one is kept; and one that completes a quorum makes the highest certificate, and the votes for blocks of
-- at most this height go.
pub record FollowsVote (s : Sizes) (c : Chronicle) (kept : VotesByDigest) (d : Bytes) (b : Branch)
    (vote : Vote) :
    Type 0 where
  pub low : length b ≤ certified s c
      → Leaves s (noted (got_vote vote.voter vote.vector b) ∷ c) kept (qc_high s c)
  pub doubled : certified s c < length b → judged (quorum s) vote.voter (votes_for d kept) ≡ Doubled
      → Leaves s (noted (got_vote vote.voter vote.vector b) ∷ c) kept (qc_high s c)
  pub first : certified s c < length b → judged (quorum s) vote.voter (votes_for d kept) ≡ First
      → Leaves s (noted (got_vote vote.voter vote.vector b) ∷ c) (with_vote d (length b) vote kept)
      (qc_high s c)
  pub complete : certified s c < length b → judged (quorum s) vote.voter (votes_for d kept) ≡ Complete
      → Leaves s (noted (got_vote vote.voter vote.vector b) ∷ c) (kept_above (length b) kept)
      (record { block = b; certificate = made_with d vote kept })

-- the step brings no vote, and is no lead
abbrev pub LeavesVotes : Step → Type 0
LeavesVotes (noted (got_vote voter vector b)) = ⊥
LeavesVotes (noted (led_from b)) = ⊥
LeavesVotes st = ⊤

-- ---- the laws

-- at the start nothing is kept
abbrev pub BeginsEmpty : Sizes → Type 0
BeginsEmpty s = IsVotesOf s [] []

-- a vote for a block of the window
abbrev pub IsFollowedAtVote : Sizes → Chronicle → VotesByDigest → Type 0
IsFollowedAtVote s c kept =
    (d : Bytes) (b : Branch) (vote : Vote) → IsLawful s c → IsTree (horizon c) (window c)
    → find_in d (window c) ≡ Some b → IsVotesOf s c kept → FollowsVote s c kept d b vote

-- a lead: nothing is kept
abbrev pub IsFollowedAtLead : Sizes → Chronicle → Branch → Type 0
IsFollowedAtLead s c b = IsVotesOf s (noted (led_from b) ∷ c) []

-- any other step: the votes for blocks of at most the height of the highest certificate then may go
abbrev pub IsFollowedElse : Sizes → Chronicle → VotesByDigest → Type 0
IsFollowedElse s c kept = (st : Step) → LeavesVotes st → IsLawful s c → IsTree (horizon c) (window c)
    → IsTree (horizon (st ∷ c)) (window (st ∷ c)) → IsVotesOf s c kept
    → IsVotesOf s (st ∷ c) (kept_above (certified s (st ∷ c)) kept)

-- where that height stays, none are so low
abbrev pub NoneAreLow : Sizes → Chronicle → VotesByDigest → Type 0
NoneAreLow s c kept =
    (height : ℕ) → IsVotesOf s c kept → height ≤ certified s c → kept_above height kept ≡ kept
