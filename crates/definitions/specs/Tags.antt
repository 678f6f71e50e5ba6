-- Tags: HMAC (RFC 2104) over SHA-256 (FIPS 180-4).
use Rattle.std.specs.Prelude.{ℕ, ◌-◌, ◌*◌, take, drop, ◌∷◌, ◌++◌, length, map, replicate, bit_xor, nat_lt}
use Rattle.std.specs.Prelude.{if◌then◌else◌}
use Rattle.std.specs.Int.{w16, to_be_bytes}
use Rattle.sha2.specs.Sha256.{sha256}
use Rattle.ids.specs.declared.kind.Kind.{Kind}
use Rattle.ids.specs.Numbers.{kind_number}
use Rattle.definitions.specs.Bytes.{Bytes}

-- the bytes of a block of SHA-256 (RFC 2104, section 2, B)
abbrev pub block_len : ℕ
block_len = 64

-- a key of at most a block, with zero bytes behind it up to a block
abbrev pub padded : Bytes → Bytes
padded key = key ++ replicate (block_len - length key) 0

-- a key that is longer than a block is hashed first (RFC 2104, section 2)
abbrev pub block_key : Bytes → Bytes
block_key key = if nat_lt block_len (length key) then padded (sha256 key) else padded key

-- each byte of the key's block with the same byte
abbrev pub masked : ℕ → Bytes → Bytes
masked byte key = map (λ k. bit_xor k byte) (block_key key)

-- H(K XOR opad, H(K XOR ipad, text)) (RFC 2104, section 2)
unfoldable pub hmac : Bytes → Bytes → Bytes
hmac key text = sha256 (masked 0x5c key ++ sha256 (masked 0x36 key ++ text))

-- what a tag is made of: the label, the sender, the receiver and the content
abbrev pub tag_text : Kind → ℕ → ℕ → Bytes → Bytes
tag_text label sender receiver content =
    kind_number label ∷ to_be_bytes w16 sender ++ to_be_bytes w16 receiver ++ content

-- the tag of a sender for a receiver, under the key of the two
abbrev pub tag : Bytes → Kind → ℕ → ℕ → Bytes → Bytes
tag key label sender receiver content = hmac key (tag_text label sender receiver content)

-- the bytes of a tag (FIPS 180-4, a digest of SHA-256)
abbrev pub tag_len : ℕ
tag_len = 32

-- tag u of a vector, for replica u
abbrev pub tag_of : Bytes → ℕ → Bytes
tag_of vector u = take tag_len (drop (tag_len * u) vector)
