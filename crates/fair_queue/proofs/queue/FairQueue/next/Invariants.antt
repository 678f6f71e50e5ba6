-- The rows that were passed are those from which nothing may be taken.
use Rattle.std.proofs.Common.{◌≡◌, ℕ, ◌<◌, length, false}
use Rattle.fair_queue.specs.Queues.{ready_at, row_at}
use Rattle.fair_queue.proofs.queue.FairQueue.next.Given as goal

abbrev pub invariant-loop-place : goal.invariant-loop-place
invariant-loop-place g l = (before : ℕ) → before < l.place
    → ready_at l.self.rows (row_at (length l.self.rows) l.self.turn before) ≡ false
