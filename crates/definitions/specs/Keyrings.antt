-- Keyrings, and the tags that a party makes and tests.
use Rattle.std.specs.Prelude.{ℕ, zero, suc, ◌+◌, ◌-◌, Bool, ◌&&◌, ◌||◌, List, [], ◌++◌, bytes_eq, nat_lt}
use Rattle.std.specs.Prelude.{nat_le, if◌then◌else◌, slice_index_or}
use Rattle.ids.specs.declared.kind.Kind.{Kind}
use Rattle.ids.specs.Sizes.{Sizes, replicas, client_party}
use Rattle.definitions.specs.Bytes.{Bytes}
use Rattle.definitions.specs.Tags.{tag}

-- a party's keys, by the number of the other party
pub record Keyring : Type 0 where
  pub party : ℕ
  pub key : ℕ → Bytes

-- the tag that the keyring's party makes for a receiver
unfoldable pub tag_for : Keyring → Kind → ℕ → Bytes → Bytes
tag_for ring label receiver content = tag (ring.key receiver) label ring.party receiver content

-- whether these bytes are the tag that a sender makes for the keyring's party
unfoldable pub verify : Keyring → Kind → ℕ → Bytes → Bytes → Bool
verify ring label sender content bytes =
    bytes_eq bytes (tag (ring.key sender) label sender ring.party content)

-- the tags for the first replicas, one after the other
unfoldable pub tags_for : Keyring → Kind → Bytes → ℕ → Bytes
tags_for ring label content zero = []
tags_for ring label content (suc u) = tags_for ring label content u ++ tag_for ring label u content

-- a vector: one tag for each replica
abbrev pub vector_for : Sizes → Keyring → Kind → Bytes → Bytes
vector_for sizes ring label content = tags_for ring label content (replicas sizes)

-- ---- the keys of a party as they are kept

-- the keys of one party: with each replica in order, then, where it is a replica, with each client
pub record Keys : Type 0 where
  pub sizes : Sizes
  pub party : ℕ
  pub keys : List Bytes

-- the party is a replica
abbrev pub is_replica_of : Sizes → ℕ → Bool
is_replica_of sizes party = nat_lt party (replicas sizes)

-- the party is a client
abbrev pub is_client_of : Sizes → ℕ → Bool
is_client_of sizes party = nat_le (client_party 0) party && nat_lt party (client_party sizes.clients)

-- there is such a party
abbrev pub is_party_of : Sizes → ℕ → Bool
is_party_of sizes party = is_replica_of sizes party || is_client_of sizes party

-- the number of the client that a party is
abbrev pub client_at : ℕ → ℕ
client_at party = party - client_party 0

-- how many keys a party has
abbrev pub keys_due : Sizes → ℕ → ℕ
keys_due sizes party = if is_replica_of sizes party then replicas sizes + sizes.clients else replicas sizes

-- the party exchanges frames with this one: of the two, one is a replica
abbrev pub is_peer : Keys → ℕ → Bool
is_peer ring party =
    is_replica_of ring.sizes party || (is_replica_of ring.sizes ring.party && is_client_of ring.sizes party)

-- the place of a party among them
abbrev pub place_of : Sizes → ℕ → ℕ
place_of sizes party = if nat_lt party (client_party 0) then party else replicas sizes + client_at party

-- the keyring that they are
abbrev pub keyring_of : Keys → Keyring
keyring_of ring =
    record { party = ring.party; key = λ party. slice_index_or ring.keys (place_of ring.sizes party) [] }
