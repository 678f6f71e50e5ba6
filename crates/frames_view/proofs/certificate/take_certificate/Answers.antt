use Rattle.std.proofs.Common.{◌+◌, length, arith}
use Rattle.definitions.proofs.Slices.{LentAt-behind, LeftAt-behind}
use Rattle.frames_view.proofs.certificate.take_certificate.Goals as goal

pub returns-clause-lent : goal.returns-clause-lent
returns-clause-lent c =
    let digest = c.in_ok-digest in
    let count = c.in_ok-count in
    let votes = c.in_ok-votes in
    let head =
    LeftAt-behind c.args.bytes digest.rest count.rest 32 1 33 (omega arith) digest.ensures.lent.1
    count.ensures.lent in (
      (
        digest.ensures.lent.0,
        LentAt-behind c.args.bytes count.rest votes.votes 33 0 33 (omega arith) head.0
            votes.ensures.lent.0,
      ),
      LeftAt-behind c.args.bytes count.rest votes.rest 33 (length votes.votes.now)
          (33 + length votes.votes.now) (omega arith) head votes.ensures.lent.1,
    )
