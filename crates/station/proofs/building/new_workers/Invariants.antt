use Rattle.std.proofs.Common.{◌≡◌, ◌≤◌, vec_len, vec_capacity}
use Rattle.station.specs.Workers.{AllLieBy}
use Rattle.station.proofs.building.new_workers.Given as goal

-- as many as were made, which lie so, and room for all
abbrev pub invariant-loop : goal.invariant-loop
invariant-loop l =
    (vec_len l.workers ≡ l.counter) × AllLieBy l.liars l.workers.items × (l.count ≤ vec_capacity l.workers)
