use Rattle.std.proofs.Common.{◌+◌, length, arith}
use Rattle.definitions.proofs.Slices.{LentAt-behind, LeftAt-behind}
use Rattle.frames_view.proofs.core_view.take_fields.Goals as goal

pub returns-clause-lent : goal.returns-clause-lent
returns-clause-lent c =
    let parent = c.in_ok-parent in
    let heights = c.in_ok-height in
    let count = c.in_ok-count in
    let commands = c.in_ok-commands in
    let head = LeftAt-behind c.args.bytes parent.rest heights.rest 32 16 48 (omega arith)
    parent.ensures.lent.1 heights.ensures.lent in
    let all =
    LeftAt-behind c.args.bytes heights.rest count.rest 48 1 49 (omega arith) head count.ensures.lent in (
      (
        parent.ensures.lent.0,
        LentAt-behind c.args.bytes count.rest commands.commands 49 0 49 (omega arith) all.0
            commands.ensures.lent.0,
      ),
      LeftAt-behind c.args.bytes count.rest commands.rest 49 (length commands.commands.now)
          (49 + length commands.commands.now) (omega arith) all commands.ensures.lent.1,
    )
