use Rattle.std.proofs.Common.{arith, ◌<◌, length}
use Rattle.outbox.proofs.Moves.{one_moved}
use Rattle.outbox.proofs.outbox.Outbox.move_oldest.Goals as goal

pub loop-preserved : goal.loop-preserved
loop-preserved c =
    let within : c.loop.counter < length c.args.self.now.frames = omega (arith, c.requires.within) in
    let moved = one_moved c.args.self.now c.loop.self c.pop-frame.new.self c.args.batch.now.items c.loop.batch.items
    c.push_reserved.new.self.items c.loop.counter c.pop-frame.result within c.loop.invariant.waits
    c.pop-frame.ensures.taken c.pop-frame.ensures.kept c.loop.invariant.taken c.push_reserved.ensures.items in
    record {
      waits = moved.left_is;
      taken = moved.moved_is;
      room = omega (arith, c.push_reserved.ensures.len, c.push_reserved.ensures.capacity);
    }
