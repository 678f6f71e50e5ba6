use Rattle.liars.specs.Any.{for_one_alone}
use Rattle.liars.specs.Told.{bytes_of}
use Rattle.liars.proofs.Sent.{one_more_of}
use Rattle.liars.proofs.any.for_each_alone.Goals as goal

pub loop-number-preserved : goal.loop-number-preserved
loop-number-preserved c =
    one_more_of bytes_of (for_one_alone c.args.config c.args.frame.now) c.loop-number.out.items c.push.new.self.items
    c.loop-number.number c.in_ok-for_one_alone.field-0 c.loop-number.invariant c.in_ok-push.ensures.items
    c.in_ok-for_one_alone.ensures
