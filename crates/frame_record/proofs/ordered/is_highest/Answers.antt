use Rattle.std.proofs.Common.{arith}
use Rattle.frame_record.proofs.Parting.{highest-last}
use Rattle.frame_record.proofs.ordered.is_highest.Goals as goal

pub returns-in-Some : goal.returns-in-Some
returns-in-Some c =
    highest-last c.args.height c.args.frames.now.items _ c.in-Some.last.now _ c.requires (omega arith)
    c.in-Some.ensures.lookup c.is_up_to.ensures
