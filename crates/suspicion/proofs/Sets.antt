-- Sets of replicas.
use Rattle.std.proofs.Common.{◌≡◌, ◌<◌, ◌∙◌, ℕ, Bool, List, false, length, sym, arith}
use Rattle.std.proofs.lemmas.List.{ext_get_or, get_or-replicate}
use Rattle.std.proofs.lemmas.List.FromFn.{get_or-map-range_with_len, length-map-range_with_len}
use Rattle.ids.specs.declared.limits.TheConstants.{MOST_REPLICAS}
use Rattle.suspicion.specs.ReplicaSets.{is_in, nobody, those}

-- a set that nobody is in
pub nobody-in : (r : ℕ) → r < MOST_REPLICAS → is_in nobody r ≡ false
nobody-in r low = get_or-replicate MOST_REPLICAS r false false low

-- a set is those of whom it has each
pub are-those : (set : List Bool) → (said : ℕ → Bool) → length set ≡ MOST_REPLICAS
    → ((r : ℕ) → r < MOST_REPLICAS → is_in set r ≡ said r) → set ≡ those said
are-those set said long each =
    ext_get_or false set (those said) (long ∙ sym (length-map-range_with_len said 0 MOST_REPLICAS))
    (λ r low. each r (omega (arith, low, long))
    ∙ sym (get_or-map-range_with_len said 0 MOST_REPLICAS r r false (omega (arith, low, long)) (omega arith)))
