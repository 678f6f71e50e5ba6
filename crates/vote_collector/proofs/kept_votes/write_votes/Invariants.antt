-- The bytes so far are those of the votes so far.
use Rattle.std.proofs.Common.{◌≡◌, ◌++◌, take}
use Rattle.std.specs.List.{flat_map}
use Rattle.definitions.specs.Frames.{vote_bytes}
use Rattle.vote_collector.proofs.kept_votes.write_votes.Given as goal

abbrev pub invariant-loop-vote : goal.invariant-loop-vote
invariant-loop-vote l =
    l.bytes.items ≡ l.initial.bytes.items ++ flat_map vote_bytes ((take l.vote-index l.votes))
