-- What the tags of a frame speak of stands at its front.
use Rattle.std.proofs.Common.{◌≡◌, ℕ, ◌-◌, ◌^◌, ◌<◌, ◌≤◌, [], ◌++◌, length, take, Some, refl, sym, ap}
use Rattle.std.proofs.Common.{subst, ◌∙◌, append_assoc, arith, length-append}
use Rattle.std.specs.Int.{w16, w32, w64, to_be_bytes}
use Rattle.std.proofs.lemmas.List.{take_at}
use Rattle.ids.specs.Sizes.{Sizes, replicas}
use Rattle.definitions.specs.Bytes.{Bytes}
use Rattle.definitions.specs.Frames.{Core, Certificate, core_bytes, certificate_bytes, proposal_content}
use Rattle.definitions.specs.Frames.{new_view_content, reply_content, fetch_content, block_content}
use Rattle.frames_view.specs.Readings.{Reader, number}
use Rattle.frames_view.specs.Parts.{digest_in, party_in, positive_in, text_in, votes_in, certificate_in}
use Rattle.frames_view.proofs.Exact.{IsBytes, IsBytes-right, IsExact}
use Rattle.frames_view.proofs.Parts.{IsExact-digest, IsExact-party, IsExact-long, IsExact-positive}
use Rattle.frames_view.proofs.Parts.{IsExact-text, IsExact-certificate}

-- the bytes are a front and a rest
abbrev pub IsFront : Bytes → Bytes → Bytes → Type 0
IsFront bytes front rest = bytes ≡ front ++ rest

-- the rest is no longer than the bytes, and before it stands the front
abbrev pub Leaves : Bytes → Bytes → Bytes → Type 0
Leaves bytes front rest = (length rest ≤ length bytes) × (take (length bytes - length rest) bytes ≡ front)

leaves : (bytes front rest : Bytes) → IsFront bytes front rest → Leaves bytes front rest
leaves bytes front rest e =
    let len : length bytes - length rest ≡ length front =
    omega (arith, ap length e, length-append front rest) in (
      omega (arith, ap length e, length-append front rest),
      ap (λ (n : ℕ). take n bytes) len
          ∙ (ap (take (length front)) e ∙ take_at front rest (length front) refl),
    )

-- one more part behind a front
IsFront-step : (bytes front mid text rest : Bytes) → IsFront bytes front mid → IsFront mid text rest
    → IsFront bytes (front ++ text) rest
IsFront-step bytes front mid text rest so_far next =
    so_far ∙ ap (λ (l : Bytes). front ++ l) next ∙ sym (append_assoc front text rest)

-- the same where it is read
module _ {X : Type 0} (P : X → Type 0) (spell : X → Bytes) (read : Reader X) (exact : IsExact P spell read)
  where
    IsFront-read : (bytes front mid : Bytes) (x : X) (rest : Bytes) → IsBytes bytes → IsFront bytes front mid
        → read mid ≡ Some (x, rest) → IsFront bytes (front ++ spell x) rest
    IsFront-read bytes front mid x rest fits so_far e =
        IsFront-step bytes front mid (spell x) rest so_far
        (exact.found mid x rest (IsBytes-right front mid (subst IsBytes so_far fits)) e).1

-- the same of a certificate, which no number of clients matters to
IsFront-certificate : (sizes : Sizes) → replicas sizes < 256
    → (bytes front mid : Bytes) (q : Certificate) (rest : Bytes) → IsBytes bytes → IsFront bytes front mid
    → certificate_in sizes mid ≡ Some (q, rest)
    → IsFront bytes (front ++ certificate_bytes q) rest
unfolding certificate_in votes_in
IsFront-certificate sizes few bytes front mid q rest fits so_far e =
    IsFront-read _ _ _
    (IsExact-certificate (record sizes { clients = 0 }) (few, omega arith)) bytes front
    mid q rest fits so_far e

module _ (bytes : Bytes) (fits : IsBytes bytes) where
  pub proposal_front : (sizes : Sizes) → replicas sizes < 256
      → (view : ℕ) (k : Core) (q : Certificate) (a b rest : Bytes)
      → number w64 bytes ≡ Some (view, a) → IsFront a (core_bytes k) b
      → certificate_in sizes b ≡ Some (q, rest) → Leaves bytes (proposal_content view k q) rest
  proposal_front sizes few view k q a b rest e0 e1 e2 =
      let front = to_be_bytes w64 view in
      let s0 = IsFront-read _ _ _ IsExact-long bytes [] bytes view a fits refl e0 in
      leaves bytes (proposal_content view k q) rest (IsFront-certificate sizes few bytes
      (front ++ core_bytes k) b q rest fits (IsFront-step bytes front a (core_bytes k) b s0 e1) e2)

  module _ (n : ℕ) (few : n < 2 ^ 16) where
    -- a party's number is read at the front
    party_front : (party : ℕ) (a : Bytes) → party_in n bytes ≡ Some (party, a)
        → IsFront bytes (to_be_bytes w16 party) a
    party_front party a e = IsFront-read _ _ _ (IsExact-party n few) bytes [] bytes party a fits refl e

    pub new_view_front : (sizes : Sizes) → replicas sizes < 256
        → (view sender : ℕ) (q : Certificate) (a b rest : Bytes)
        → number w64 bytes ≡ Some (view, a) → party_in n a ≡ Some (sender, b)
        → certificate_in sizes b ≡ Some (q, rest) → Leaves bytes (new_view_content view sender q) rest
    new_view_front sizes fewer view sender q a b rest e0 e1 e2 =
        let front = to_be_bytes w64 view in
        let s0 = IsFront-read _ _ _ IsExact-long bytes [] bytes view a fits refl e0 in
        let s1 = IsFront-read _ _ _ (IsExact-party n few) bytes front a sender b fits s0 e1 in
        leaves bytes (new_view_content view sender q) rest
        (IsFront-certificate sizes fewer bytes (front ++ to_be_bytes w16 sender) b q rest fits s1 e2)

    pub reply_front : (clients : ℕ) → clients < 2 ^ 16
        → (replica client seq place : ℕ) (text a b c d rest : Bytes)
        → party_in n bytes ≡ Some (replica, a) → party_in clients a ≡ Some (client, b)
        → positive_in b ≡ Some (seq, c) → positive_in c ≡ Some (place, d)
        → text_in d ≡ Some (text, rest)
        → Leaves bytes (reply_content replica client seq place text) rest
    reply_front clients few_clients replica client seq place text a b c d rest e0 e1 e2 e3 e4 =
        let parties = to_be_bytes w16 replica ++ to_be_bytes w16 client in
        let front = parties ++ to_be_bytes w64 seq ++ to_be_bytes w64 place in
        let s1 = IsFront-read _ _ _ (IsExact-party clients few_clients) bytes (to_be_bytes w16 replica) a
        client b fits (party_front replica a e0) e1 in
        let s2 = IsFront-read _ _ _ IsExact-positive bytes parties b seq c fits s1 e2 in
        let s3 =
        IsFront-read _ _ _ IsExact-positive bytes (parties ++ to_be_bytes w64 seq) c place d fits s2 e3 in
        let s4 = IsFront-read _ _ _ IsExact-text bytes front d text rest fits s3 e4 in
        leaves bytes (reply_content replica client seq place text) rest
        (s4
        ∙ ap (λ (l : Bytes). l ++ rest) (sym (append_assoc front (to_be_bytes w32 (length text)) text)))

    pub fetch_front : (sender : ℕ) (digest a rest : Bytes) → party_in n bytes ≡ Some (sender, a)
        → digest_in a ≡ Some (digest, rest) → Leaves bytes (fetch_content sender digest) rest
    fetch_front sender digest a rest e0 e1 =
        leaves bytes (fetch_content sender digest) rest
        (IsFront-read _ _ _ IsExact-digest bytes (to_be_bytes w16 sender) a digest rest fits
        (party_front sender a e0) e1)

    pub block_front : (sizes : Sizes) → replicas sizes < 256
        → (sender : ℕ) (k : Core) (q : Certificate) (a b rest : Bytes)
        → party_in n bytes ≡ Some (sender, a) → IsFront a (core_bytes k) b
        → certificate_in sizes b ≡ Some (q, rest) → Leaves bytes (block_content sender k q) rest
    block_front sizes fewer sender k q a b rest e0 e1 e2 =
        let front = to_be_bytes w16 sender in
        leaves bytes (block_content sender k q) rest (IsFront-certificate sizes fewer bytes
        (front ++ core_bytes k) b q rest fits
        (IsFront-step bytes front a (core_bytes k) b (party_front sender a e0) e1) e2)
