-- The senders so far are replicas, and so are the voters of the other votes.
use Rattle.std.proofs.Common.{◌<◌, IsTrue}
use Rattle.std.specs.List.{All, AllByRecursion}
use Rattle.definitions.specs.FrameLimits.{IsVote}
use Rattle.definitions.specs.Keyrings.{is_peer}
use Rattle.frames_view.specs.Views.{votes_left}
use Rattle.certificates.proofs.certificate.foresee.Given as goal

abbrev pub invariant-loop-vote : goal.invariant-loop-vote
invariant-loop-vote l = record {
  count : l.count < 4;
  four : All (λ sender. IsTrue (is_peer l.keyring sender)) l.four;
  votes : AllByRecursion (IsVote l.keyring.sizes) (votes_left l.vote-iterator);
}
