-- None of those before stored one.
use Rattle.std.proofs.Common.{take}
use Rattle.std.specs.Prelude.{All}
use Rattle.definitions.specs.Frames.{Core}
use Rattle.audit.specs.Cores.{known, Stores, Collide}
use Rattle.audit.proofs.collisions.collides_at.Given as goal

abbrev pub invariant-loop-replica : goal.invariant-loop-replica
invariant-loop-replica l =
    All (λ r. (b : Core) → Stores r.now.replica.chronicle b → Collide (known l.core) b → ⊥)
    (take l.replica-index l.replicas)
