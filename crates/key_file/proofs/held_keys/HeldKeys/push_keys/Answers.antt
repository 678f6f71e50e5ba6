use Rattle.std.proofs.Common.{rules, ◌≡◌, ◌+◌, Some}
use Rattle.key_file.specs.KeyFile.{found_key}
use Rattle.key_file.proofs.Keyrings.{one_more_key}
use Rattle.key_file.proofs.held_keys.HeldKeys.push_keys.Goals as goal

pub loop-i-preserved : goal.loop-i-preserved
loop-i-preserved c =
    let found : found_key c.args.self.now.all.keys c.args.party (c.args.first + c.loop-i.i)
    ≡ Some c.new.result
    = search (rules, c.find_key.ensures, c.first.view_is, c.unwrap-key.ensures, c.new.ensures) in
    one_more_key c.args.self.now.all.keys c.args.out.now.items c.loop-i.out.items c.push.new.self.items
    c.args.party c.args.first c.loop-i.i c.new.result c.loop-i.invariant found c.in_ok-push.ensures.items
