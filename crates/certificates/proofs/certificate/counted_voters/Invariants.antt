-- The voters so far, and then those of the other votes, are all that are counted.
use Rattle.std.proofs.Common.{◌≡◌, ◌+◌, ◌≤◌, ◌++◌, length}
use Rattle.std.specs.List.{AllByRecursion}
use Rattle.ids.specs.declared.limits.TheConstants.{MOST_REPLICAS}
use Rattle.definitions.specs.FrameLimits.{IsVote}
use Rattle.definitions.specs.Checks.{identity_of, counted_voters}
use Rattle.frames_view.specs.Views.{certificate_of, votes_left}
use Rattle.certificates.proofs.Counting.{counted_among}
use Rattle.certificates.proofs.certificate.counted_voters.Given as goal

abbrev pub invariant-loop-vote : goal.invariant-loop-vote
invariant-loop-vote l = record {
  so_far : l.voters
      ++ counted_among (identity_of l.keyring) (certificate_of l.certificate).digest
      (votes_left l.vote-iterator) ≡ counted_voters (identity_of l.keyring) (certificate_of l.certificate);
  room : length l.voters + length (votes_left l.vote-iterator) ≤ MOST_REPLICAS;
  votes : AllByRecursion (IsVote l.keyring.sizes) (votes_left l.vote-iterator);
}
