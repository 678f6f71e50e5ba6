-- The tags of a vector, each at its replica's place.
use Rattle.std.proofs.Common.{ℕ, ◌+◌, ◌*◌, ◌<◌, ◌≤◌, ◌≡◌, zero, suc, ◌++◌, length, take, drop, refl, ap}
use Rattle.std.proofs.Common.{◌∙◌, arith, length-append, inl, inr}
use Rattle.std.proofs.lemmas.Bool.{cases_lt}
use Rattle.std.proofs.lemmas.List.{take_all, drop_at, take-append-le, drop-append-le, length-drop}
use Rattle.sha2.proofs.Facts256.{length-sha256}
use Rattle.ids.specs.declared.kind.Kind.{Kind}
use Rattle.ids.specs.Sizes.{Sizes, replicas}
use Rattle.definitions.specs.Bytes.{Bytes}
use Rattle.definitions.specs.Tags.{hmac, tag_len, tag_of}
use Rattle.definitions.specs.Keyrings.{Keyring, tag_for, tags_for, vector_for}
use Rattle.definitions.specs.FrameLimits.{IsVector}

-- a tag is as long as a digest of SHA-256
pub length-hmac : (key text : Bytes) → length (hmac key text) ≡ tag_len
unfolding hmac
length-hmac key text = length-sha256 _

-- ---- tags one after the other

-- a tag within the front stands there
pub tag_of-append_left : (tags more : Bytes) (u : ℕ) → tag_len * u + tag_len ≤ length tags
    → tag_of (tags ++ more) u ≡ tag_of tags u
tag_of-append_left tags more u fits =
    ap (take tag_len) (drop-append-le (tag_len * u) tags more (omega arith))
    ∙ take-append-le tag_len (drop (tag_len * u) tags) more (omega (arith, length-drop (tag_len * u) tags))

-- the last tag stands behind the others
pub tag_of-append_right : (tags last : Bytes) (u : ℕ) → length tags ≡ tag_len * u → length last ≡ tag_len
    → tag_of (tags ++ last) u ≡ last
tag_of-append_right tags last u before len =
    ap (take tag_len) (drop_at tags last (tag_len * u) before) ∙ take_all tag_len last (omega arith)

module _ (ring : Keyring) (label : Kind) (content : Bytes) where
  -- a tag made for a replica is a whole tag
  pub length-tag_for : (u : ℕ) → length (tag_for ring label u content) ≡ tag_len
  unfolding tag_for
  length-tag_for u = length-hmac _ _

  -- tags for n replicas have the bytes of n tags
  pub length-tags_for : (n : ℕ) → length (tags_for ring label content n) ≡ tag_len * n
  unfolding tags_for
  length-tags_for zero = refl
  length-tags_for (suc n) = simp length-append (omega (arith, length-tags_for n, length-tag_for n))

  -- the tag at place u is the tag for replica u
  pub tag_of-tags_for : (n u : ℕ) → u < n
      → tag_of (tags_for ring label content n) u ≡ tag_for ring label u content
  unfolding tags_for
  tag_of-tags_for zero u lt = absurd (omega arith)
  tag_of-tags_for (suc n) u lt = elim (cases_lt u n) [
    | inl below ↦
        tag_of-append_left (tags_for ring label content n) (tag_for ring label n content) u
        (omega (arith, length-tags_for n)) ∙ tag_of-tags_for n u below
    | inr above ↦
        let last : n ≡ u = omega arith in
        rw last (tag_of-append_right (tags_for ring label content u) (tag_for ring label u content) u
        (length-tags_for u) (length-tag_for u))
  ]

-- a vector has a tag for each replica
pub IsVector-vector_for : (sizes : Sizes) (ring : Keyring) (label : Kind) (content : Bytes)
    → IsVector sizes (vector_for sizes ring label content)
IsVector-vector_for sizes ring label content = length-tags_for ring label content (replicas sizes)

-- the tag of a vector for a replica is at its place
pub tag_of-vector_for : (sizes : Sizes) (ring : Keyring) (label : Kind) (content : Bytes) (u : ℕ)
    → u < replicas sizes
    → tag_of (vector_for sizes ring label content) u ≡ tag_for ring label u content
tag_of-vector_for sizes ring label content u lt = tag_of-tags_for ring label content (replicas sizes) u lt
