use Rattle.std.proofs.Common.{◌≡◌, ◌<◌}
use Rattle.replica.proofs.Executing.{IsUpTo}
use Rattle.replica.proofs.execution.execute_all.Given as goal

abbrev pub invariant-loop-height : goal.invariant-loop-height
invariant-loop-height g l =
    IsUpTo l.teller.keyring.now l.decided.tip.now l.decided.tree.now l.decided.from l.height
    l.initial.executor.history l.executor.history l.initial.pool l.pool
    l.initial.out l.out × (l.executor.most_keys ≡ l.initial.executor.most_keys) × (l.decided.to <
    l.decided.from → l.height ≡ l.decided.from)
    × (g.L.Ledger.holds l.initial.ledger l.initial.executor.history → g.L.Ledger.holds l.ledger
    l.executor.history)
