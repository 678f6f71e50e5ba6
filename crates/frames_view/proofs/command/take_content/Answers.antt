use Rattle.std.proofs.Common.{◌+◌, length, arith}
use Rattle.definitions.proofs.Slices.{LentAt-behind, LeftAt-behind}
use Rattle.frames_view.proofs.command.take_content.Goals as goal

pub returns-clause-lent : goal.returns-clause-lent
returns-clause-lent c =
    let payload = c.in_ok-payload in
    let before =
    LeftAt-behind c.args.bytes c.in_ok-client.rest c.in_ok-seq.rest 2 8 10 (omega arith)
    c.in_ok-client.ensures.lent c.in_ok-seq.ensures.lent in (
      LentAt-behind c.args.bytes c.in_ok-seq.rest payload.payload 10 2 12 (omega arith) before.0
          payload.ensures.lent.0,
      LeftAt-behind c.args.bytes c.in_ok-seq.rest payload.rest 10 (2 + length payload.payload.now)
          (12 + length payload.payload.now) (omega arith) before payload.ensures.lent.1,
    )
