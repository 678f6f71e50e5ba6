-- The keys of a simulated world.
use Rattle.std.specs.Prelude.{ℕ, List, [], ◌++◌, map, min, max, codes, if◌then◌else◌}
use Rattle.std.specs.List.{range_with_len}
use Rattle.std.specs.Int.{w16, to_be_bytes}
use Rattle.sha2.specs.Sha256.{sha256}
use Rattle.ids.specs.Sizes.{Sizes, replicas, client_party}
use Rattle.definitions.specs.Bytes.{Bytes}
use Rattle.definitions.specs.Keyrings.{Keys, is_replica_of}

-- the key of two parties: the digest of the word and of their numbers, the lower one first
unfoldable pub simulated_key : ℕ → ℕ → Bytes
simulated_key p q = sha256 (codes "hsim" ++ to_be_bytes w16 (min p q) ++ to_be_bytes w16 (max p q))

-- a party's keys with so many parties from one on
abbrev pub keys_with : ℕ → ℕ → ℕ → List Bytes
keys_with party first count = map (simulated_key party) (range_with_len first count)

-- the keys of a party: with each replica, then, where it is a replica, with each client
abbrev pub simulated_keys : Sizes → ℕ → Keys
simulated_keys sizes party = record {
  sizes = sizes;
  party = party;
  keys =
      keys_with party 0 (replicas sizes)
      ++ (if is_replica_of sizes party then keys_with party (client_party 0) sizes.clients else []);
}
