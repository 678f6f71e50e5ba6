-- What is left behind the commands so far, and then the others, is what is left behind all.
use Rattle.std.proofs.Common.{◌≡◌, ◌-◌}
use Rattle.frames_view.specs.Readings.{behind}
use Rattle.frames_view.specs.Parts.{command_in}
use Rattle.frames_view.proofs.core_view.skip_commands.Given as goal

abbrev pub invariant-loop : goal.invariant-loop
invariant-loop l =
    behind (command_in l.replicas l.clients) (l.count - l.counter) l.rest
    ≡ behind (command_in l.replicas l.clients) l.count l.bytes
