-- HMACs from hash values in lanes.
use Rattle.std.proofs.Common.{◌≡◌, ◌<◌, ◌≤◌, ◌-◌, ◌+◌, ℕ, zero, suc, List, [], ◌++◌, length, replicate, bit_xor, nat_lt, Bool, true, false, if◌then◌else◌, refl, ap, ap₂, ◌∙◌, arith, length-append}
use Rattle.std.proofs.lemmas.Bool.{ltb-false}
use Rattle.std.proofs.lemmas.List.{length-map, length-replicate}
use Rattle.sha2.specs.Sha256.{digest_bytes, sha256}
use Rattle.sha2.proofs.Facts256.{length-sha256}
use Rattle.lanes.specs.Texts.{after_first, after_text}
use Rattle.lanes.proofs.Hashing.{digest_after}
use Rattle.definitions.specs.Bytes.{Bytes}
use Rattle.definitions.specs.Tags.{block_key, hmac, masked, padded, tag_text}
use Rattle.definitions.specs.Keyrings.{Keyring}
use Rattle.ids.specs.declared.kind.Kind.{Kind}
use Rattle.authenticators.specs.Keyed.{AreStates, after_key, begun_for}
use Rattle.authenticators.specs.declared.mac.KeyStates.{KeyStates}

length-padded : (key : Bytes) → length key ≤ 64 → length (padded key) ≡ 64
length-padded key short =
    let zeros : length (replicate (64 - length key) 0) ≡ 64 - length key = length-replicate {A = ℕ} (64 - length key) 0 in
    length-append key (replicate (64 - length key) 0) ∙ ap (λ (n : ℕ). length key + n) zeros ∙ (let e : length key + (64 - length key) ≡ 64 = omega arith in e)

length-if : (b : Bool) (x y : Bytes) → (b ≡ true → length x ≡ 64) → (b ≡ false → length y ≡ 64) → length (if b then x else y) ≡ 64
length-if true x y p q = p refl
length-if false x y p q = q refl

-- what HMAC makes of a key is a block
length-masked : (mask : ℕ) (key : Bytes) → length (masked mask key) ≡ 64
length-masked mask key = length-map (block_key key) (λ k. bit_xor k mask)
    ∙ length-if (nat_lt 64 (length key)) (padded (sha256 key)) (padded key)
    (λ long. length-padded (sha256 key) (omega (arith, length-sha256 key)))
    (λ short. length-padded key (ltb-false 64 (length key) short))

-- the HMAC of a text, from the hash values after both hashings
pub hmac_of_states : (key text : Bytes) (inner outer : List ℕ) → inner ≡ after_text (after_key 0x36 key) text
    → outer ≡ after_text (after_key 0x5c key) (digest_bytes inner 8) → digest_bytes outer 8 ≡ hmac key text
unfolding hmac
hmac_of_states key text inner outer ei eo =
    let digest : digest_bytes inner 8 ≡ sha256 (masked 0x36 key ++ text) = digest_after (masked 0x36 key) text inner (length-masked 0x36 key) ei in
    digest_after (masked 0x5c key) (digest_bytes inner 8) outer (length-masked 0x5c key) eo ∙ ap (λ (x : Bytes). sha256 (masked 0x5c key ++ x)) digest

-- a lane that has begun with the key and the head of a replica
pub begun_lane : (ring : Keyring) (label : Kind) (content : Bytes) (u r me : ℕ) (s : KeyStates) (key head state result : List ℕ)
    → r ≡ u → key ≡ ring.key r → AreStates key s → me ≡ ring.party → head ≡ tag_text label me r [] → state ≡ s.inner → result ≡ after_first state (head ++ content)
    → result ≡ begun_for ring label u content
begun_lane ring label content u r me s key head state result er ek states em eh es e =
    let of_key : state ≡ after_key 0x36 (ring.key u) = es ∙ states.inner ∙ ap (after_key 0x36) (ek ∙ ap ring.key er) in
    let text : head ++ content ≡ tag_text label ring.party u content = ap (λ (l : Bytes). l ++ content) eh ∙ ap₂ (λ (x y : ℕ). tag_text label x y content) em er in
    e ∙ ap₂ after_first of_key text

-- a lane that has begun with the key and the head of a sender
pub begun_from : (ring : Keyring) (label : Kind) (content : Bytes) (u me : ℕ) (s : KeyStates)
    (key head state result : List ℕ) → key ≡ ring.key u → AreStates key s → me ≡ ring.party
    → head ≡ tag_text label u me [] → state ≡ s.inner → result ≡ after_first state (head ++ content)
    → result ≡ after_first (after_key 0x36 (ring.key u)) (tag_text label u ring.party [] ++ content)
begun_from ring label content u me s key head state result ek states em eh es e =
    let of_key : state ≡ after_key 0x36 (ring.key u) = es ∙ states.inner ∙ ap (after_key 0x36) ek in
    let text : head ++ content ≡ tag_text label u ring.party [] ++ content =
    ap (λ (l : Bytes). l ++ content) (eh ∙ ap (λ (p : ℕ). tag_text label u p []) em) in
    e ∙ ap₂ after_first of_key text

-- a lane that is done
pub finished_lane : (ring : Keyring) (text : Bytes) (u r : ℕ) (s : KeyStates) (key inner state result : List ℕ)
    → r ≡ u → key ≡ ring.key r → AreStates key s → state ≡ s.outer → inner ≡ after_text (after_key 0x36 (ring.key u)) text
    → result ≡ after_text state (digest_bytes inner 8) → digest_bytes result 8 ≡ hmac (ring.key u) text
finished_lane ring text u r s key inner state result er ek states es ei e =
    let of_key : state ≡ after_key 0x5c (ring.key u) = es ∙ states.outer ∙ ap (after_key 0x5c) (ek ∙ ap ring.key er) in
    hmac_of_states (ring.key u) text inner result ei (e ∙ ap (λ (h : List ℕ). after_text h (digest_bytes inner 8)) of_key)

-- what holds in each lane
pub in_each : (P : ℕ → Type 0) → P 0 → P 1 → P 2 → P 3 → (j : ℕ) → j < 4 → P j
in_each P a b c d zero lt = a
in_each P a b c d (suc zero) lt = b
in_each P a b c d (suc (suc zero)) lt = c
in_each P a b c d (suc (suc (suc zero))) lt = d
in_each P a b c d (suc (suc (suc (suc j)))) lt = absurd (omega arith)
