use Rattle.std.proofs.Common.{◌≡◌, ◌≤◌, vec_len, vec_capacity}
use Rattle.station.specs.Stations.{shared}
use Rattle.station.proofs.building.new_shares.Given as goal

-- as many as were made, and room for all
abbrev pub invariant-loop : goal.invariant-loop
invariant-loop l =
    (vec_len l.shares ≡ l.counter) × (l.count ≤ vec_capacity l.shares) × (l.kept ≡ shared l.counter l.fn.kept)
