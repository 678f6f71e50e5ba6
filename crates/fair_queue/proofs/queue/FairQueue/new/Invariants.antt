-- The rows so far.
use Rattle.std.proofs.Common.{◌≡◌, ◌≤◌, vec_capacity}
use Rattle.std.specs.Prelude.{replicate}
use Rattle.fair_queue.specs.Queues.{empty_row}
use Rattle.fair_queue.proofs.queue.FairQueue.new.Given as goal

abbrev pub invariant-loop : goal.invariant-loop
invariant-loop g l = (l.made.items ≡ replicate l.counter (empty_row l.allowed)) × (l.rows ≤ vec_capacity l.made)
