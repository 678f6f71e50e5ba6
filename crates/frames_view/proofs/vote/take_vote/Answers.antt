use Rattle.std.proofs.Common.{◌+◌, length, arith}
use Rattle.definitions.proofs.Slices.{LentAt-behind, LeftAt-behind}
use Rattle.frames_view.proofs.vote.take_vote.Goals as goal

pub returns-clause-lent : goal.returns-clause-lent
returns-clause-lent c =
    let one = c.in_ok-voter in
    let two = c.in_ok-vector in (
      LentAt-behind c.args.bytes one.rest two.vector 2 0 2 (omega arith) one.ensures.lent.0
          two.ensures.lent.0,
      LeftAt-behind c.args.bytes one.rest two.rest 2 (length two.vector.now) (2 + length two.vector.now)
          (omega arith) one.ensures.lent two.ensures.lent.1,
    )
