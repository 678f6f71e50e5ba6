-- A stored core that collides with a known one stands in the steps that are left.
use Rattle.definitions.specs.Frames.{Core}
use Rattle.audit_ground.specs.Law.{KnownTo}
use Rattle.audit.specs.Judged.{judged}
use Rattle.audit.specs.Cores.{Collide}
use Rattle.audit.proofs.Colliding.{IsLeft}
use Rattle.audit.proofs.collisions.collision_of.Given as goal

abbrev pub invariant-loop-step : goal.invariant-loop-step
invariant-loop-step l =
    (goal.iterator-loop-step).can_next l.earlier
    × (goal.iterator-loop-step).is_finite l.earlier
    × IsLeft (λ a. (b : Core) × KnownTo (judged l.replicas) b × Collide a b) l.replica.replica.chronicle
    l.earlier
