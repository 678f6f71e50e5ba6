-- A core that collides stands in the steps that are left.
use Rattle.audit.specs.Cores.{known, Collide}
use Rattle.audit.proofs.Colliding.{IsLeft}
use Rattle.audit.proofs.collisions.collides_in.Given as goal

abbrev pub invariant-loop-step : goal.invariant-loop-step
invariant-loop-step l =
    (goal.iterator-loop-step).can_next l.earlier
    × (goal.iterator-loop-step).is_finite l.earlier
    × IsLeft (λ b. Collide (known l.core) b) l.fn.chronicle l.earlier
