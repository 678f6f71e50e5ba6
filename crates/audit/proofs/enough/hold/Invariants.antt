use Rattle.std.proofs.Common.{take}
use Rattle.std.specs.Prelude.{All}
use Rattle.audit.specs.Judged.{IsHeld}
use Rattle.audit.proofs.enough.hold.Given as goal

abbrev pub invariant-loop-replica : goal.invariant-loop-replica
invariant-loop-replica g l = All (λ r. IsHeld (g.J.Judged.held r.now)) (take l.replica-index l.replicas)
