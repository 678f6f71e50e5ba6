-- Those before stand.
use Rattle.std.proofs.Common.{◌≡◌, true, take}
use Rattle.std.specs.List.{list_all}
use Rattle.audit.specs.Judged.{judged}
use Rattle.audit.specs.Deeds.{stands}
use Rattle.audit.specs.Fronts.{cut_of}
use Rattle.audit.proofs.fronts.first_missing.Given as goal

abbrev pub invariant-loop-number : goal.invariant-loop-number
invariant-loop-number l =
    list_all (stands l.deed (judged l.replicas) (cut_of l.fronts) l.named.block)
    (take l.number-index l.named.replicas.now) ≡ true
