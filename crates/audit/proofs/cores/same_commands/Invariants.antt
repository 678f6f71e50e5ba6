-- What is left is the same where all is.
use Rattle.std.proofs.Common.{◌≡◌, ◌↔◌}
use Rattle.frames_view.specs.Views.{commands_left}
use Rattle.audit.proofs.cores.same_commands.Given as goal

abbrev pub invariant-loop-command : goal.invariant-loop-command
invariant-loop-command l =
    (commands_left l.command-iterator ≡ commands_left l.others)
    ↔ (commands_left l.fn.a ≡ commands_left l.fn.b)
