-- Hashers that have taken what is made of a key, and the hash values after it.
use Rattle.std.specs.Prelude.{◌≡◌, ℕ, List}
use Rattle.sha2.specs.Hashers.{Holds256}
use Rattle.sha2.specs.Sha256.{compress, initial_hash_256}
use Rattle.definitions.specs.Bytes.{Bytes}
use Rattle.ids.specs.declared.kind.Kind.{Kind}
use Rattle.lanes.specs.Texts.{after_first}
use Rattle.definitions.specs.Tags.{hmac, masked, tag_text}
use Rattle.definitions.specs.Keyrings.{Keyring}
use Rattle.authenticators.specs.declared.mac.KeyedHashers.{KeyedHashers}
use Rattle.authenticators.specs.declared.mac.KeyStates.{KeyStates}

-- each has taken the key's block under its mask, and nothing else (RFC 2104, section 2: K XOR ipad, K XOR
-- opad)
pub record IsKeyed (key : Bytes) (h : KeyedHashers) : Type 0 where
  pub inner : Holds256 h.inner (masked 0x36 key)
  pub outer : Holds256 h.outer (masked 0x5c key)

-- the hash value after the key's block under a mask
abbrev pub after_key : ℕ → Bytes → List ℕ
after_key mask key = compress initial_hash_256 (masked mask key)

-- these are the hash values after the key's two blocks
pub record AreStates (key : Bytes) (s : KeyStates) : Type 0 where
  pub inner : s.inner ≡ after_key 0x36 key
  pub outer : s.outer ≡ after_key 0x5c key

-- the hash value after the first block of what is hashed under a key, the inner hash of a replica's tag
abbrev pub begun_for : Keyring → Kind → ℕ → Bytes → List ℕ
begun_for ring label u content =
    after_first (after_key 0x36 (ring.key u)) (tag_text label ring.party u content)

-- the right tag of a content from a sender
abbrev pub right_from : Keyring → Kind → ℕ → Bytes → Bytes
right_from ring label u content = hmac (ring.key u) (tag_text label u ring.party content)
