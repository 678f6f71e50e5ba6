-- The key file, and what its keys are to each party.
use Rattle.std.specs.Prelude.{◌≡◌, ℕ, ◌+◌, ◌-◌, ◌<◌, ◌&&◌, ◌==◌, min, max, List, [], ◌∷◌, ◌++◌, length}
use Rattle.std.specs.Prelude.{map, find}
use Rattle.std.specs.Prelude.{decimal, Option, option_map, IsSome, unwrap_or, if◌then◌else◌, ⊤}
use Rattle.std.specs.List.{range_with_len, flat_map}
use Rattle.hex.specs.Hex.{encode_lower, IsBytes}
use Rattle.ids.specs.Sizes.{Sizes, replicas, client_party}
use Rattle.definitions.specs.Bytes.{Bytes}
use Rattle.definitions.specs.Keyrings.{Keys, is_replica_of}
use Rattle.key_file.specs.declared.pair_key.PairKey.{PairKey}

-- ---- the text

-- a key
abbrev pub IsKey : Bytes → Type 0
IsKey key = (length key ≡ 32) × IsBytes key

-- a number and a space
abbrev pub number_text : ℕ → Bytes
number_text n = decimal n ++ 32 ∷ []

-- a key and the LF that ends its line
abbrev pub key_end : Bytes → Bytes
key_end key = encode_lower key ++ 10 ∷ []

-- the line of two parties: their numbers and their key, with a space between, and LF
abbrev pub key_line : ℕ → ℕ → Bytes → Bytes
key_line one other key = number_text one ++ (number_text other ++ key_end key)

-- the line of a key
abbrev pub line_of : PairKey → Bytes
line_of k = key_line k.one k.other k.key

-- a party with so many parties from one on
abbrev pub pairs_with : ℕ → ℕ → ℕ → List (ℕ × ℕ)
pairs_with one first count = map (λ other. (one, other)) (range_with_len first count)

-- a replica with itself and the replicas behind it, then with all clients
abbrev pub pairs_of : Sizes → ℕ → List (ℕ × ℕ)
pairs_of sizes one =
    pairs_with one one (replicas sizes - one) ++ pairs_with one (client_party 0) sizes.clients

-- all pairs, in the order of their lines
abbrev pub pairs : Sizes → List (ℕ × ℕ)
pairs sizes = flat_map (pairs_of sizes) (range_with_len 0 (replicas sizes))

-- these are keys of these pairs, one for each, in order
abbrev pub AreOf : List (ℕ × ℕ) → List PairKey → Type 0
AreOf [] [] = ⊤
AreOf (p ∷ ps) (k ∷ ks) = (k.one ≡ p.0) × (k.other ≡ p.1) × IsKey k.key × AreOf ps ks
AreOf _ _ = ⊥

-- the text is the key file of these keys
abbrev pub IsFileOf : Sizes → List PairKey → Bytes → Type 0
IsFileOf sizes keys text = AreOf (pairs sizes) keys × (text ≡ flat_map line_of keys)

-- ---- the keyrings

-- keys of a deployment
pub record AllKeys : Type 0 where
  pub sizes : Sizes
  pub keys : List PairKey

-- the key of two parties, if they have one: that of the line with the lower number first
abbrev pub found_key : List PairKey → ℕ → ℕ → Option Bytes
found_key keys a b = option_map (λ k. k.key) (find (λ k. (k.one == min a b) && (k.other == max a b)) keys)

-- a party has a key with each of so many parties from one on
abbrev pub HasKeys : List PairKey → ℕ → ℕ → ℕ → Type 0
HasKeys keys party first count = (i : ℕ) → i < count → IsSome (found_key keys party (first + i))

-- the key of two parties, where they have one
abbrev pub key_between : List PairKey → ℕ → ℕ → Bytes
key_between keys a b = unwrap_or (found_key keys a b) []

-- a party's keys with so many parties from one on
abbrev pub keys_with : List PairKey → ℕ → ℕ → ℕ → List Bytes
keys_with keys party first count = map (key_between keys party) (range_with_len first count)

-- the keys of a party: with each replica, then, where it is a replica, with each client
abbrev pub keys_of_party : AllKeys → ℕ → Keys
keys_of_party all party = record {
  sizes = all.sizes;
  party = party;
  keys = keys_with all.keys party 0 (replicas all.sizes)
      ++ (if is_replica_of all.sizes party then keys_with all.keys party (client_party 0) all.sizes.clients
      else []);
}
