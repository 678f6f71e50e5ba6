use Rattle.audit.proofs.Moves.{IsCounted, left}
use Rattle.audit.proofs.fronts.fronts.Given as goal

abbrev pub invariant-loop-mover : goal.invariant-loop-mover
invariant-loop-mover l = IsCounted l.replicas l.fronts

abbrev pub decreases-loop-mover : goal.decreases-loop-mover
decreases-loop-mover l = left l.replicas l.fronts
