use Rattle.std.proofs.Common.{◌≡◌, ◌++◌, map}
use Rattle.std.specs.List.{range_with_len}
use Rattle.ids.specs.Sizes.{replicas, client_party}
use Rattle.simulated_keys.specs.Keys.{simulated_keys}
use Rattle.simulator.proofs.simulation.keyrings_of.Given as goal

abbrev pub invariant-loop-replica : goal.invariant-loop-replica
invariant-loop-replica l = l.keyrings.items ≡ map (simulated_keys l.config) (range_with_len 0 l.replica)

abbrev pub invariant-loop-client : goal.invariant-loop-client
invariant-loop-client l = l.keyrings.items
    ≡ map (simulated_keys l.config) (range_with_len 0 (replicas l.config))
    ++ map (λ c. simulated_keys l.config (client_party c)) (range_with_len 0 l.client)
