use Rattle.std.proofs.Common.{◌≡◌}
use Rattle.frames_view.specs.Views.{commands_left}
use Rattle.executor.proofs.Blocks.{IsRun}
use Rattle.executor.proofs.executor.Executor.run_block.Given as goal

abbrev pub invariant-loop-command : goal.invariant-loop-command
invariant-loop-command g l =
    IsRun l.fn.self.most_keys (commands_left l.fn.commands) (commands_left l.command-iterator)
    l.fn.self.history l.self.history l.answers.items
    × (l.self.most_keys ≡ l.fn.self.most_keys)
    × (g.L.Ledger.holds l.initial.ledger l.fn.self.history → g.L.Ledger.holds l.ledger l.self.history)
