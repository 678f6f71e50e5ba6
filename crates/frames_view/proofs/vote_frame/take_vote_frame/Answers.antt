use Rattle.std.proofs.Common.{arith}
use Rattle.frames_view.proofs.Places.{IsVoteAt-behind}
use Rattle.frames_view.proofs.vote_frame.take_vote_frame.Goals as goal

pub returns-clause-lent : goal.returns-clause-lent
returns-clause-lent c =
    let digest = c.in_ok-digest in
    let vote = c.in_ok-vote in (
      digest.ensures.lent.0,
      IsVoteAt-behind c.args.bytes digest.rest 32 0 32 (omega arith) digest.ensures.lent.1.0 vote.vote
          vote.ensures.lent.0,
    )
