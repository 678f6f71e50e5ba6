use Rattle.frames_view.proofs.Places.{IsFrameAt-behind}
use Rattle.frames_view.proofs.frame.old_frame.Goals as goal

pub returns-clause-lent : goal.returns-clause-lent
returns-clause-lent c = IsFrameAt-behind c.args.bytes c.in_ok-number.rest 1 c.in_ok-number.ensures.lent.0 0
    c.in_ok-frame.frame c.in_ok-frame.ensures.lent
