-- Who vouches for a request.
use Rattle.std.specs.Prelude.{ℕ, ◌+◌, Bool, List, nat_le}
use Rattle.ids.specs.Sizes.{Sizes, quorum}
use Rattle.suspicion.specs.ReplicaSets.{size}

-- they are a quorum with the one that asks
abbrev pub are_enough : (vouchers : List Bool) → Sizes → Bool
are_enough vouchers sizes = nat_le (quorum sizes) (size vouchers + 1)
