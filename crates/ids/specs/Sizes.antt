-- The sizes of a deployment, and the numbers of its parties.
use Rattle.std.specs.Prelude.{◌≡◌, ℕ, ◌+◌, ◌*◌, ◌%◌, ◌≤◌, ◌⊎◌}
use Rattle.ids.specs.declared.fault.Fault.{Fault}
use Rattle.ids.specs.declared.fault.Fault.TheVariants.{BadKeys, Memory}
use Rattle.ids.specs.declared.limits.TheConstants.{MOST_KEYS}

-- how many faulty replicas are tolerated, how many clients there are, and for how many keys a replica's cache
-- has room
pub record Sizes : Type 0 where
  pub faults : ℕ
  pub clients : ℕ
  pub most_keys : ℕ

-- the limits of a cache's room
abbrev pub IsRoom : ℕ → Type 0
IsRoom most_keys = (1 ≤ most_keys) × (most_keys ≤ MOST_KEYS)

-- why there is nothing with such a room: it is out of its limits; or else memory was refused
abbrev pub HasNoRoom : ℕ → Fault → Type 0
HasNoRoom most_keys fault =
    ((fault ≡ BadKeys) × ¬ (IsRoom most_keys)) ⊎ ((fault ≡ Memory) × (IsRoom most_keys))

-- the limits of the sizes
abbrev pub AreSizes : Sizes → Type 0
AreSizes s = (1 ≤ s.faults) × (s.faults ≤ 10) × (1 ≤ s.clients) × (s.clients ≤ 64) × (IsRoom s.most_keys)

-- how many replicas there are
abbrev pub replicas : Sizes → ℕ
replicas s = 3 * s.faults + 1

-- how many replicas make a quorum: all but the faulty ones
abbrev pub quorum : Sizes → ℕ
quorum s = 2 * s.faults + 1

-- the leader of a view
abbrev pub leader : Sizes → ℕ → ℕ
leader s view = view % replicas s

-- a client as a party: replica i is i, client c is 256 + c
abbrev pub client_party : ℕ → ℕ
client_party c = 256 + c
