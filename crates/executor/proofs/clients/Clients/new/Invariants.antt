use Rattle.std.proofs.Common.{ℕ, ◌≡◌, None, length}
use Rattle.executor.specs.Rows.{row}
use Rattle.executor.proofs.clients.Clients.new.Given as goal

abbrev pub invariant-loop-client : goal.invariant-loop-client
invariant-loop-client l = (length l.rows.items ≡ l._client) × ((client : ℕ) → row l.rows.items client ≡ None)
