-- What a world is: its sizes, which parties are faulty, and the keys of all.
use Rattle.ids.specs.declared.fault.Fault.{Fault}
use Rattle.ids.specs.declared.fault.Fault.TheVariants as fault
use Rattle.std.specs.Prelude.{ℕ, ◌≡◌, ◌⊎◌, ◌+◌, ◌==◌, ◌≤◌, Bool, not, true, List, [], length, Option, Some, None}
use Rattle.std.specs.Prelude.{if◌then◌else◌, nat_lt, slice_index_or}
use Rattle.std.specs.List.{list_any, list_all}
use Rattle.ids.specs.Sizes.{Sizes, IsRoom, HasNoRoom, AreSizes, replicas}
use Rattle.definitions.specs.Lists.{count_below}
use Rattle.definitions.specs.Keyrings.{Keyring, Keys, keyring_of, place_of, is_party_of}
use Rattle.definitions.specs.Worlds.{World, new_world}

-- what a schedule runs in
pub record Setting : Type 0 where
  pub sizes : Sizes
  pub faulty : List ℕ  -- numbers of parties
  pub keyrings : List Keys  -- of the replicas in order, then of the clients

-- the party is one of these
abbrev pub is_named : List ℕ → ℕ → Bool
is_named parties party = list_any (λ q. q == party) parties

-- the keys of a party that has none
abbrev pub no_keys : Sizes → ℕ → Keys
no_keys sizes party = record { sizes = sizes; party = party; keys = [] }

-- the keyring of a party, of those of the replicas in order and then of the clients
abbrev pub keys_at : Sizes → List Keys → ℕ → Keys
keys_at sizes keyrings party = slice_index_or keyrings (place_of sizes party) (no_keys sizes party)

-- whether a party is faulty
abbrev pub is_faulty_in : Setting → ℕ → Bool
is_faulty_in s party = is_named s.faulty party

-- the keys of each party
abbrev pub ring_in : Setting → ℕ → Keyring
ring_in s party = keyring_of (keys_at s.sizes s.keyrings party)

-- the definitions' world, before anything happens
abbrev pub start_of : Setting → World
start_of s = new_world s.sizes (is_faulty_in s) (ring_in s)

-- the keys are this party's, at these sizes
pub record IsKeyringOf (sizes : Sizes) (party : ℕ) (keys : Keys) : Type 0 where
  pub sizes_are : keys.sizes ≡ sizes
  pub party_is : keys.party ≡ party

-- one keyring a party, replicas first
pub record AreKeyrings (sizes : Sizes) (keyrings : List Keys) : Type 0 where
  pub count : length keyrings ≡ replicas sizes + sizes.clients
  pub each : (p : ℕ) → is_party_of sizes p ≡ true → IsKeyringOf sizes p (keys_at sizes keyrings p)

-- the same keys, where caches have room for so many keys
abbrev pub with_room : ℕ → Keys → Keys
with_room most_keys keys = record keys { sizes = record keys.sizes { most_keys = most_keys } }

-- why there is no world with these faulty parties: one isn't a party, or more replicas are faulty than are
-- tolerated
abbrev pub why_not : Sizes → List ℕ → Option Fault
why_not sizes faulty =
    if not (list_all (λ party. is_party_of sizes party) faulty) then Some fault.NoSuchParty
    else (if nat_lt sizes.faults (count_below (replicas sizes) (is_named faulty)) then Some
    fault.TooManyFaulty else None)

-- why there is no such world with this room: the room is out of its limits; or else the faulty parties are wrong,
-- or memory was refused
abbrev pub HasNoWorld : Sizes → List ℕ → ℕ → Fault → Type 0
HasNoWorld sizes faulty most_keys fault =
    HasNoRoom most_keys fault ⊎ ((IsRoom most_keys) × (why_not sizes faulty ≡ Some fault))

-- what holds of each world, as a setting: at most f replicas are faulty, and each party has its own keys
pub record Holds (s : Setting) : Type 0 where
  pub sizes_are : AreSizes s.sizes
  pub few : count_below (replicas s.sizes) (is_faulty_in s) ≤ s.sizes.faults
  pub keys : (p : ℕ) → is_party_of s.sizes p ≡ true → (ring_in s p).party ≡ p

-- what is kept of a world
pub record IsSetting (s : Setting) : Type 0 where
  pub few : count_below (replicas s.sizes) (is_faulty_in s) ≤ s.sizes.faults
  pub keyrings_are : AreKeyrings s.sizes s.keyrings
