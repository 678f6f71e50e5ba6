use Rattle.std.proofs.Common.{arith}
use Rattle.window_files.proofs.Appended.{head_pushed}
use Rattle.window_files.proofs.writing.push_head.Goals as goal

pub returns : goal.returns
returns c =
    head_pushed c.args.head.now c.args.out.now.items c.push_number.new.out.items c.push_number-2.new.out.items
    c.push_number-3.new.out.items c.push_number-4.new.out.items c.push_number-5.new.out.items
    c.push_number-6.new.out.items c.from.result c.from-2.result c.most_keys.result c.place_of.result
    c.number_of.result c.number_of-2.result (omega (arith, c.from.ensures, c.faults.ensures))
    (omega (arith, c.from-2.ensures, c.clients.ensures)) c.most_keys.ensures c.place_of.ensures c.number_of.ensures
    c.number_of-2.ensures c.in_ok-push_number.ensures c.in_ok-push_number-2.ensures c.in_ok-push_number-3.ensures
    c.in_ok-push_number-4.ensures c.in_ok-push_number-5.ensures c.in_ok-push_number-6.ensures
