-- No command so far overtakes it.
use Rattle.std.proofs.Common.{◌≡◌}
use Rattle.frames_view.specs.Views.{commands_left}
use Rattle.mempool.specs.Pool.{is_overtaken}
use Rattle.mempool.proofs.pending.Pending.is_overtaken.Given as goal

abbrev pub invariant-loop-command : goal.invariant-loop-command
invariant-loop-command l =
    is_overtaken (commands_left l.command-iterator) l.self ≡ is_overtaken (commands_left l.fn.executed) l.self
