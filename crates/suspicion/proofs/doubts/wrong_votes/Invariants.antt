-- The votes that are left are votes. Those found so far, and those that are wrong among the ones left, are all.
use Rattle.std.proofs.Common.{◌≡◌, ◌<◌, ◌||◌, ℕ}
use Rattle.std.specs.List.{AllByRecursion}
use Rattle.ids.specs.declared.limits.TheConstants.{MOST_REPLICAS}
use Rattle.definitions.specs.FrameLimits.{IsVote}
use Rattle.suspicion.specs.ReplicaSets.{is_in}
use Rattle.frames_view.specs.Views.{certificate_of, votes_left}
use Rattle.suspicion.specs.Doubting.{is_wrong, is_wrong_among}
use Rattle.suspicion.proofs.doubts.wrong_votes.Given as goal

abbrev pub invariant-loop-vote : goal.invariant-loop-vote
invariant-loop-vote l = AllByRecursion (IsVote l.keyring.sizes) (votes_left l.vote-iterator)
    × ((voter : ℕ) → voter < MOST_REPLICAS
    → (is_in l.wrong voter || is_wrong_among l.keyring (certificate_of l.certificate).digest (votes_left l.vote-iterator) voter)
    ≡ is_wrong l.keyring (certificate_of l.certificate) voter)
