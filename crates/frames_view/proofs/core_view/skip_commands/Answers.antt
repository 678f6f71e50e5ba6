use Rattle.std.proofs.Common.{sym}
use Rattle.frames_view.specs.Readings.{behind}
use Rattle.frames_view.specs.Parts.{command_in}
use Rattle.frames_view.specs.Views.{command_of}
use Rattle.frames_view.proofs.Walks.{behind_goes_on}
use Rattle.frames_view.proofs.core_view.skip_commands.Goals as goal

pub loop-preserved : goal.loop-preserved
loop-preserved c =
    let read = command_in c.args.replicas c.args.clients in
    let one = c.in_ok-_command in
    behind_goes_on read c.args.count c.loop.counter c.loop.rest.now
    (behind read c.args.count c.args.bytes.now) (command_of one._command) one.after.now c.loop-test.true
    (sym one.ensures.taken) c.loop.invariant
