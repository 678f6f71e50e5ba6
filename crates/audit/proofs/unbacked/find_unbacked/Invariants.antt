-- The fronts of those before are whole.
use Rattle.std.proofs.Common.{◌≡◌, None, take}
use Rattle.std.specs.Prelude.{All}
use Rattle.definitions.specs.Audit.{chronicle_of, step_after}
use Rattle.audit.specs.Judged.{judged}
use Rattle.audit.specs.Fronts.{cut_of}
use Rattle.audit.proofs.unbacked.find_unbacked.Given as goal

abbrev pub invariant-loop-replica : goal.invariant-loop-replica
invariant-loop-replica l =
    All (λ r. step_after (cut_of l.fronts r.now.keys.party)
    (chronicle_of (judged l.replicas) r.now.keys.party) ≡ None) (take l.replica-index l.replicas)
