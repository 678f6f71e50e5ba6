use Rattle.std.proofs.Common.{◌≡◌, ◌||◌, not, ap, subst, sym, ◌∙◌}
use Rattle.std.specs.List.{AllByRecursion}
use Rattle.definitions.specs.Checks.{identity_of, vote_verifies}
use Rattle.definitions.specs.FrameLimits.{IsVote}
use Rattle.suspicion.specs.ReplicaSets.{is_in}
use Rattle.frames_view.specs.Views.{certificate_of, vote_of, votes_left}
use Rattle.suspicion.specs.Doubting.{is_wrong}
use Rattle.suspicion.proofs.Doubting.{right-one}
use Rattle.suspicion.proofs.Sets.{nobody-in}
use Rattle.suspicion.proofs.doubts.wrong_votes.Goals as goal

pub loop-vote-init : goal.loop-vote-init
loop-vote-init c =
    let all : votes_left c.into_iter-vote-iterator.result ≡ (certificate_of c.args.certificate.now).votes =
    ap votes_left c.into_iter-vote-iterator.ensures.into_iter_gives ∙ c.votes-vote-items.ensures.value in (
      rw all c.requires.votes,
      (λ voter low. rw all (rw c.none-wrong.ensures
          (ap (λ b. b || is_wrong c.args.keyring.now (certificate_of c.args.certificate.now) voter) (nobody-in voter low)))),
    )

pub loop-vote-preserved : goal.loop-vote-preserved
loop-vote-preserved c = (
  (subst (AllByRecursion (IsVote c.args.keyring.now.sizes)) c.in-Some.ensures.steps c.loop-vote.invariant.0).1,
  (λ voter low. right-one (is_in c.loop-vote.wrong voter) c.args.keyring.now c.args.certificate.now.digest.now voter _
      (votes_left c.next.new.self) (votes_left c.loop-vote.vote-iterator) c.in-Some.ensures.steps
      (ap (λ d. not (vote_verifies (identity_of c.args.keyring.now) d (vote_of c.in-Some.vote))) (sym c.digest.ensures.value)
      ∙ ap not (sym c.vote_is_right.ensures ∙ c.if-not-vote_is_right.false)) ∙ c.loop-vote.invariant.1 voter low),
)
