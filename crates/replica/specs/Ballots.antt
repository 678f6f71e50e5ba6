-- What a vote changes.
use Rattle.ids.specs.declared.fault.Fault.{Fault}
use Rattle.ids.specs.declared.fault.Fault.TheVariants as fault
use Rattle.std.specs.Prelude.{◌≡◌, [], length, nat_lt, if◌then◌else◌, Option, Some, None, Result, Err}
use Rattle.std.specs.Prelude.{MatchResult}
use Rattle.ids.specs.Sizes.{quorum}
use Rattle.definitions.specs.Bytes.{Bytes}
use Rattle.definitions.specs.Frames.{Vote}
use Rattle.definitions.specs.Branches.{Branch}
use Rattle.definitions.specs.Trees.{blocks, find_in}
use Rattle.vote_collector.specs.declared.added.Added.{Added}
use Rattle.vote_collector.specs.declared.added.Added.TheVariants.{First, Doubled, Complete}
use Rattle.vote_collector.specs.Collecting.{votes_for, judged}
use Rattle.vote_collector.specs.Lawful.{made_with}
use Rattle.replica_rules.specs.declared.block_ref.BlockRef.{BlockRef}
use Rattle.replica.specs.declared.stored.StoredStep.TheVariants.{GotVote}
use Rattle.replica.specs.declared.change.Change.{Change}
use Rattle.replica.specs.declared.change.Growth.TheVariants.{Vote as AVote}
use Rattle.replica.specs.Kept.{StateParts}
use Rattle.replica.specs.Changes.{noting}

-- it is stored
abbrev pub vote_noted : StateParts → BlockRef → Vote → Change
vote_noted s block vote = noting s.variables (GotVote (record { block = block.digest; vote = vote })) []

-- by what it is to the votes that are kept: a first one is kept too, and one that completes a quorum makes
-- the highest certificate
abbrev pub vote_counted : StateParts → BlockRef → Vote → Added → Change
vote_counted s block vote Doubled = vote_noted s block vote
vote_counted s block vote First = record (vote_noted s block vote) { growth = AVote block vote }
vote_counted s block vote Complete = record (vote_noted s block vote) {
  high = Some (record { block = block; certificate = made_with block.digest vote s.votes.kept });
  leaf = block;
}

-- only where its block is higher than that of the highest certificate
abbrev pub vote_change : StateParts → BlockRef → Vote → Change
vote_change s block vote =
    if nat_lt s.variables.high.block.height block.height
    then vote_counted s block vote
    (judged (quorum s.votes.sizes) vote.voter (votes_for block.digest s.votes.kept))
    else vote_noted s block vote

-- what a vote comes to, where this was found of its block
abbrev pub IsVoteAt : StateParts → Bytes → Vote → Result Change Fault → Option Branch → Type 0
IsVoteAt s d vote result None = result ≡ Err fault.UnknownParent
IsVoteAt s d vote result (Some b) =
    MatchResult result (λ x. x ≡ vote_change s (record { digest = d; height = length b }) vote)
    (λ f. f ≡ fault.Memory)

abbrev pub IsVoteDecided : StateParts → Bytes → Vote → Result Change Fault → Type 0
IsVoteDecided s d vote result = IsVoteAt s d vote result (find_in d (blocks s.variables.stored))
