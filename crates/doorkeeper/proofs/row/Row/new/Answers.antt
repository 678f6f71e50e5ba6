use Rattle.std.proofs.Common.{ℕ, arith, inl, inr, replicate}
use Rattle.std.proofs.lemmas.Bool.{cases_lt}
use Rattle.std.proofs.lemmas.List.{get_or-replicate, get_or_past, length-replicate}
use Rattle.ids.specs.declared.limits.TheConstants.{MOST_REPLICAS}
use Rattle.doorkeeper.proofs.row.Row.new.Goals as goal

pub returns : goal.returns
returns c = λ sender. elim (cases_lt sender MOST_REPLICAS) [
  | inl l ↦ get_or-replicate MOST_REPLICAS sender 0 0 l
  | inr g ↦ get_or_past (replicate MOST_REPLICAS 0) sender 0
      (let e = length-replicate {A = ℕ} MOST_REPLICAS 0 in omega (arith, e, g))
]
