-- The addresses so far are read.
use Rattle.std.proofs.Common.{◌≡◌, map}
use Rattle.deployment.specs.Deployments.{AreAddresses, replicas_text}
use Rattle.deployment.proofs.replicas.read_replicas.Given as goal

abbrev pub invariant-loop-replica : goal.invariant-loop-replica
invariant-loop-replica l =
    AreAddresses l.replica (map (λ a. a.now) l.addresses.items)
    × (l.text ≡ replicas_text 0 (map (λ a. a.now) l.addresses.items) l.rest)
