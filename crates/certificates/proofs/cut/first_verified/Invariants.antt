-- What verifies of the others is what verifies of all.
use Rattle.std.proofs.Common.{◌≡◌, length}
use Rattle.std.specs.List.{AllByRecursion}
use Rattle.definitions.specs.FrameLimits.{IsVote}
use Rattle.definitions.specs.Checks.{identity_of}
use Rattle.frames_view.specs.Views.{votes_left}
use Rattle.certificates.specs.Cutting.{verified}
use Rattle.certificates.proofs.cut.first_verified.Given as goal

abbrev pub invariant-loop-vote : goal.invariant-loop-vote
invariant-loop-vote l = record {
  same : verified (identity_of l.keyring) l.digest (votes_left l.rest)
      ≡ verified (identity_of l.keyring) l.digest (votes_left l.votes);
  votes : AllByRecursion (IsVote l.keyring.sizes) (votes_left l.rest);
}

abbrev pub decreases-loop-vote : goal.decreases-loop-vote
decreases-loop-vote l = length (votes_left l.rest)
