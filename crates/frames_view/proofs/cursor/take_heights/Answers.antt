use Rattle.std.proofs.Common.{arith}
use Rattle.definitions.proofs.Slices.{LeftAt-behind}
use Rattle.frames_view.proofs.cursor.take_heights.Goals as goal

pub returns-clause-lent : goal.returns-clause-lent
returns-clause-lent c = LeftAt-behind c.args.bytes c.in_ok-height.rest c.in_ok-below.rest 8 8 16
    (omega arith) c.in_ok-height.ensures.lent c.in_ok-below.ensures.lent
