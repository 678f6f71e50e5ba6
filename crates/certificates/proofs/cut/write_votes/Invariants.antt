-- What was written and then the other votes are all that are to be written.
use Rattle.std.proofs.Common.{◌≡◌, ◌+◌, ◌++◌, length}
use Rattle.std.specs.List.{flat_map}
use Rattle.definitions.specs.Frames.{vote_bytes}
use Rattle.certificates.proofs.cut.write_votes.Given as goal

abbrev pub invariant-loop-vote : goal.invariant-loop-vote
invariant-loop-vote l = record {
  count : l.count + length l.vote-iterator ≡ length l.fn.votes;
  bytes : l.out.items ++ flat_map vote_bytes l.vote-iterator
      ≡ l.fn.out.items ++ flat_map vote_bytes l.fn.votes;
}
