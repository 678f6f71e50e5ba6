-- What those before stored collides with nothing.
use Rattle.std.proofs.Common.{take}
use Rattle.std.specs.Prelude.{All}
use Rattle.definitions.specs.Frames.{Core}
use Rattle.audit_ground.specs.Law.{KnownTo}
use Rattle.audit.specs.Judged.{judged}
use Rattle.audit.specs.Cores.{Stores, Collide}
use Rattle.audit.proofs.collisions.find_collision.Given as goal

abbrev pub invariant-loop-replica : goal.invariant-loop-replica
invariant-loop-replica l =
    All (λ r. (a b : Core) → Stores r.now.replica.chronicle a → KnownTo (judged l.replicas) b
    → Collide a b → ⊥) (take l.replica-index l.replicas)
