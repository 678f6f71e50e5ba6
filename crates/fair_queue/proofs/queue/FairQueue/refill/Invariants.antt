-- The rows that were passed are refilled.
use Rattle.std.proofs.Common.{◌≡◌, ◌++◌, map, take, drop}
use Rattle.fair_queue.specs.Queues.{refilled}
use Rattle.fair_queue.proofs.queue.FairQueue.refill.Given as goal

abbrev pub invariant-loop-row : goal.invariant-loop-row
invariant-loop-row g l =
    l.row-items
    ≡ map (refilled l.allowed) (take l.row-index l.initial.row-items) ++ drop l.row-index l.initial.row-items
