-- None of those before may move.
use Rattle.std.proofs.Common.{◌≡◌, false, take}
use Rattle.std.specs.Prelude.{All}
use Rattle.definitions.specs.Audit.{may_move}
use Rattle.audit.specs.Judged.{judged}
use Rattle.audit.specs.Fronts.{cut_of}
use Rattle.audit.proofs.fronts.find_mover.Given as goal

abbrev pub invariant-loop-replica : goal.invariant-loop-replica
invariant-loop-replica l =
    All (λ r. may_move (judged l.replicas) (cut_of l.fronts) r.now.keys.party ≡ false)
    (take l.replica-index l.replicas)
