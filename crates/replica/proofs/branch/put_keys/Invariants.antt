use Rattle.std.proofs.Common.{◌++◌, map}
use Rattle.frames_view.specs.Views.{commands_left}
use Rattle.replica.specs.Picks.{key_of}
use Rattle.replica.proofs.Walking.{IsOver}
use Rattle.replica.proofs.branch.put_keys.Given as goal

abbrev pub invariant-loop-command : goal.invariant-loop-command
invariant-loop-command l = IsOver (commands_left l.fn.commands) (commands_left l.command-iterator)
    (λ done. l.fn.keys.items ++ map key_of done) l.keys.items
