-- The readers of the parts of a frame are exact.
use Rattle.ids.specs.declared.limits.TheConstants.{MOST_COMMANDS, MOST_PAYLOAD, MOST_TEXT}
use Rattle.std.proofs.Common.{◌≡◌, ℕ, suc, ◌*◌, ◌^◌, ◌<◌, ◌≤◌, Bool, true, List, [], ◌∷◌, ◌++◌, length}
use Rattle.std.proofs.Common.{refl, append_assoc, arith, inl, inr}
use Rattle.std.specs.Prelude.{nat_lt, nat_le, ◌⊎◌, ⊤}
use Rattle.std.specs.List.{flat_map, AllByRecursion}
use Rattle.std.specs.Int.{w16, w32, w64, to_be_bytes}
use Rattle.std.proofs.lemmas.Bool.{ltb-true, lt-ltb, leb-true, le-leb, eqb-true, or_cases, or_right}
use Rattle.std.proofs.lemmas.Bool.{and_parts, and_from}
use Rattle.ids.specs.Sizes.{Sizes, replicas, quorum}
use Rattle.definitions.specs.Bytes.{Bytes}
use Rattle.definitions.specs.Frames.{Command, Core, Vote, Certificate, command_content, command_bytes}
use Rattle.definitions.specs.Frames.{core_bytes, vote_bytes, certificate_bytes}
use Rattle.definitions.specs.FrameLimits.{IsCommand, IsCore, IsVote, IsCertificate, Rise}
use Rattle.frames_view.specs.Readings.{number, tested, both, many, many_rising}
use Rattle.frames_view.specs.Parts.{digest_in, party_in, vector_in, positive_in, payload_in, text_in}
use Rattle.frames_view.specs.Parts.{heights_in, vote_in, content_in, command_in, is_count, votes_in}
use Rattle.frames_view.specs.Parts.{certificate_in, commands_in, core_in}
use Rattle.frames_view.proofs.Exact.{IsExact, IsExact-same, IsExact-number, IsExact-chunk, IsExact-tested}
use Rattle.frames_view.proofs.Exact.{IsExact-made, IsExact-both, IsExact-sized, IsExact-counted}
use Rattle.frames_view.proofs.Exact.{IsExact-many, IsExact-many_rising, RisesFrom, wide16, wide32, wide64}

-- ---- fields

pub IsExact-digest : IsExact (λ b. length b ≡ 32) (λ b. b) digest_in
IsExact-digest = IsExact-chunk 32

pub IsExact-party : (count : ℕ) → count < 2 ^ 16 → IsExact (λ v. v < count) (to_be_bytes w16) (party_in count)
unfolding party_in
IsExact-party count few =
    let num = IsExact-number w16 (2 ^ 16) wide16 in
    let exact = IsExact-tested (λ v. v < 2 ^ 16) (to_be_bytes w16) (number w16) num (λ v. nat_lt v count) in
    IsExact-same (λ v. (v < 2 ^ 16) × (nat_lt v count ≡ true)) (to_be_bytes w16)
    (tested (λ v. nat_lt v count) (number w16)) exact (λ v. v < count) (to_be_bytes w16)
    (λ v h. ltb-true v count h.1) (λ v h. (omega arith, lt-ltb v count h)) (λ v. refl)

pub IsExact-vector : (n : ℕ) → IsExact (λ b. length b ≡ 32 * n) (λ b. b) (vector_in n)
unfolding vector_in
IsExact-vector n = IsExact-chunk (32 * n)

pub IsExact-long : IsExact (λ v. v < 2 ^ 64) (to_be_bytes w64) (number w64)
IsExact-long = IsExact-number w64 (2 ^ 64) wide64

pub IsExact-positive : IsExact (λ v. (1 ≤ v) × (v < 2 ^ 64)) (to_be_bytes w64) positive_in
unfolding positive_in
IsExact-positive =
    let exact =
    IsExact-tested (λ v. v < 2 ^ 64) (to_be_bytes w64) (number w64) IsExact-long (λ v. nat_lt 0 v) in
    IsExact-same (λ v. (v < 2 ^ 64) × (nat_lt 0 v ≡ true)) (to_be_bytes w64)
    (tested (λ v. nat_lt 0 v) (number w64)) exact (λ v. (1 ≤ v) × (v < 2 ^ 64)) (to_be_bytes w64)
    (λ v h. let up = ltb-true 0 v h.1 in (omega arith, h.0)) (λ v h. (h.1, lt-ltb 0 v (omega (arith, h.0))))
    (λ v. refl)

pub IsExact-payload : IsExact (λ t. length t ≤ MOST_PAYLOAD) (λ t. to_be_bytes w16 (length t) ++ t) payload_in
unfolding payload_in
IsExact-payload = IsExact-sized w16 (2 ^ 16) wide16 MOST_PAYLOAD (omega arith)

pub IsExact-text : IsExact (λ t. length t ≤ MOST_TEXT) (λ t. to_be_bytes w32 (length t) ++ t) text_in
unfolding text_in
IsExact-text = IsExact-sized w32 (2 ^ 32) wide32 MOST_TEXT (omega arith)

pub IsExact-heights : IsExact (λ h. ((1 ≤ h.0) × (h.0 < 2 ^ 64)) × (h.1 < h.0))
    (λ h. to_be_bytes w64 h.0 ++ to_be_bytes w64 h.1) heights_in
unfolding heights_in
IsExact-heights =
    let two = IsExact-both (λ v. v < 2 ^ 64) (to_be_bytes w64) (number w64) IsExact-long (λ v. v < 2 ^ 64)
    (to_be_bytes w64) (number w64) IsExact-long in
    let P : ℕ × ℕ → Type 0 = λ h. (h.0 < 2 ^ 64) × (h.1 < 2 ^ 64) in
    let spell : ℕ × ℕ → Bytes = λ h. to_be_bytes w64 h.0 ++ to_be_bytes w64 h.1 in
    let exact = IsExact-tested P spell (both (number w64) (number w64)) two (λ h. nat_lt h.1 h.0) in
    IsExact-same (λ h. P h × (nat_lt h.1 h.0 ≡ true)) spell heights_in exact
    (λ h. ((1 ≤ h.0) × (h.0 < 2 ^ 64)) × (h.1 < h.0)) spell
    (λ h k. let below = ltb-true h.1 h.0 k.1 in ((omega arith, k.0.0), below))
    (λ h k. ((k.0.1, omega (arith, k.0.1, k.1)), lt-ltb h.1 h.0 k.1)) (λ h. refl)

-- ---- votes and certificates

-- a byte holds the number of any replica or client
abbrev pub AreFew : Sizes → Type 0
AreFew sizes = (replicas sizes < 256) × (sizes.clients < 256)

module _ (sizes : Sizes) (are : AreFew sizes) where
  pub IsExact-vote : IsExact (IsVote sizes) vote_bytes (vote_in (replicas sizes))
  unfolding vote_in
  IsExact-vote =
      let n = replicas sizes in
      let P : ℕ × Bytes → Type 0 = λ p. (p.0 < n) × (length p.1 ≡ 32 * n) in
      let spell : ℕ × Bytes → Bytes = λ p. to_be_bytes w16 p.0 ++ p.1 in
      let two = IsExact-both (λ v. v < n) (to_be_bytes w16) (party_in n)
      (IsExact-party n (omega (arith, are.0))) (λ b. length b ≡ 32 * n) (λ b. b) (vector_in n)
      (IsExact-vector n) in
      let make : ℕ × Bytes → Vote = λ p. record { voter = p.0; vector = p.1 } in
      let back : Vote → ℕ × Bytes = λ v. (v.voter, v.vector) in
      let exact =
      IsExact-made P spell (both (party_in n) (vector_in n)) two make back (λ p. refl) (λ v. refl) in
      IsExact-same (λ v. P (back v)) (λ v. spell (back v)) (vote_in n) exact (IsVote sizes) vote_bytes
      (λ v h. record { voter = h.0; vector = h.1 }) (λ v h. (h.voter, h.vector)) (λ v. refl)

-- the voters of a list that rises from a least one rise
rises : (least : ℕ) (votes : List Vote) → RisesFrom (λ v. v.voter) least votes → Rise votes
rises least [] h = tt
rises least (v ∷ []) h = tt
rises least (v ∷ w ∷ votes) h = (omega (arith, h.1.0), rises (suc v.voter) (w ∷ votes) h.1)

-- the first has at least this number
abbrev StartsFrom : ℕ → List Vote → Type 0
StartsFrom least [] = ⊤
StartsFrom least (v ∷ votes) = least ≤ v.voter

rises_from : (least : ℕ) (votes : List Vote) → Rise votes → StartsFrom least votes
    → RisesFrom (λ v. v.voter) least votes
rises_from least [] h first = tt
rises_from least (v ∷ []) h first = (first, tt)
rises_from least (v ∷ w ∷ votes) h first =
    (first, rises_from (suc v.voter) (w ∷ votes) h.1 (omega (arith, h.0)))

from_zero : (votes : List Vote) → StartsFrom 0 votes
from_zero [] = tt
from_zero (v ∷ votes) = omega arith

-- a test of the number of votes is what a certificate may have
abbrev IsCount : Sizes → ℕ → Type 0
IsCount sizes k = (k ≡ 0) ⊎ ((quorum sizes ≤ k) × (k ≤ replicas sizes))

count_allowed : (sizes : Sizes) (k : ℕ) → is_count sizes k ≡ true → IsCount sizes k
count_allowed sizes k e = elim (or_cases _ _ e) [
  | inl none ↦ inl (eqb-true _ _ none)
  | inr some ↦ let p = and_parts _ _ some in inr (leb-true _ _ p.0, leb-true _ _ p.1)
]

count_passes : (sizes : Sizes) (k : ℕ) → IsCount sizes k → is_count sizes k ≡ true
count_passes sizes k (inl none) = rw none refl
count_passes sizes k (inr some) =
    let low : nat_le (quorum sizes) k ≡ true = le-leb _ _ some.0 in
    let high : nat_le k (replicas sizes) ≡ true = le-leb _ _ some.1 in
    or_right _ _ (and_from _ _ low high)

-- what a client's tags speak of, of so many clients
abbrev pub IsContent : ℕ → ℕ × (ℕ × Bytes) → Type 0
IsContent clients x = (x.0 < clients) × (((1 ≤ x.1.0) × (x.1.0 < 2 ^ 64)) × (length x.1.1 ≤ MOST_PAYLOAD))

abbrev pub content_bytes : ℕ × (ℕ × Bytes) → Bytes
content_bytes x = command_content x.0 x.1.0 x.1.1

pub IsExact-content : (clients : ℕ) → clients < 2 ^ 16
    → IsExact (IsContent clients) content_bytes (content_in clients)
unfolding content_in
IsExact-content clients few =
    let T : Bytes → Type 0 = λ t. length t ≤ MOST_PAYLOAD in
    let text : Bytes → Bytes = λ t. to_be_bytes w16 (length t) ++ t in
    let S : ℕ → Type 0 = λ v. (1 ≤ v) × (v < 2 ^ 64) in
    let last =
    IsExact-both S (to_be_bytes w64) positive_in IsExact-positive T text payload_in IsExact-payload in
    let L : ℕ × Bytes → Type 0 = λ p. S p.0 × T p.1 in
    let spell_last : ℕ × Bytes → Bytes = λ p. to_be_bytes w64 p.0 ++ text p.1 in
    let all = IsExact-both (λ v. v < clients) (to_be_bytes w16) (party_in clients)
    (IsExact-party clients few) L spell_last (both positive_in payload_in) last in
    IsExact-same (IsContent clients) (λ p. to_be_bytes w16 p.0 ++ spell_last p.1) (content_in clients) all
    (IsContent clients) content_bytes (λ c h. h) (λ c h. h) (λ c. simp append_assoc)

-- so few votes and commands fit a byte
few_votes : (sizes : Sizes) (are : AreFew sizes) (k : ℕ) → IsCount sizes k → k < 256
few_votes sizes are k (inl none) = omega arith
few_votes sizes are k (inr some) = omega (arith, some.1, are.0)

few_commands : (k : ℕ) → k ≤ MOST_COMMANDS → k < 256
few_commands k few = omega arith

module _ (sizes : Sizes) (are : AreFew sizes) where
  pub IsExact-certificate : IsExact (IsCertificate sizes) certificate_bytes (certificate_in sizes)
  unfolding certificate_in votes_in
  IsExact-certificate =
      let n = replicas sizes in
      let vote = IsExact-vote sizes are in
      let rank : Vote → ℕ = λ v. v.voter in
      let Q : List Vote → Type 0 = λ vs. AllByRecursion (IsVote sizes) vs × RisesFrom rank 0 vs in
      let lists = IsExact-counted (IsVote sizes) vote_bytes (is_count sizes) (many_rising rank (vote_in n))
      Q (IsExact-many_rising (IsVote sizes) vote_bytes (vote_in n) vote rank) in
      let C : List Vote → Type 0 = λ vs. ((length vs < 256) × (is_count sizes (length vs) ≡ true)) × Q vs in
      let spell_votes : List Vote → Bytes = λ vs. length vs ∷ flat_map vote_bytes vs in
      let two = IsExact-both (λ b. length b ≡ 32) (λ b. b) digest_in IsExact-digest C spell_votes
      (votes_in sizes) lists in
      let P : Bytes × List Vote → Type 0 = λ p. (length p.0 ≡ 32) × C p.1 in
      let spell : Bytes × List Vote → Bytes = λ p. p.0 ++ spell_votes p.1 in
      let make : Bytes × List Vote → Certificate = λ p. record { digest = p.0; votes = p.1 } in
      let back : Certificate → Bytes × List Vote = λ q. (q.digest, q.votes) in
      let exact =
      IsExact-made P spell (both digest_in (votes_in sizes)) two make back (λ p. refl) (λ q. refl) in
      IsExact-same (λ q. P (back q)) (λ q. spell (back q)) (certificate_in sizes) exact
      (IsCertificate sizes) certificate_bytes
      (λ q h. record {
        digest = h.0;
        count = count_allowed sizes (length q.votes) h.1.0.1;
        votes = h.1.1.0;
        rising = rises 0 q.votes h.1.1.1;
      })
      (λ q h. (
        h.digest,
        (
          (few_votes sizes are (length q.votes) h.count, count_passes sizes (length q.votes) h.count),
          (h.votes, rises_from 0 q.votes h.rising (from_zero q.votes)),
        ),
      ))
      (λ q. refl)

  -- ---- commands and cores

  pub IsExact-command : IsExact (IsCommand sizes) command_bytes (command_in (replicas sizes) sizes.clients)
  unfolding command_in
  IsExact-command =
      let n = replicas sizes in
      let clients = sizes.clients in
      let V : Bytes → Type 0 = λ b. length b ≡ 32 * n in
      let all = IsExact-both (IsContent clients) content_bytes (content_in clients)
      (IsExact-content clients (omega (arith, are.1))) V (λ b. b) (vector_in n) (IsExact-vector n) in
      let P : (ℕ × (ℕ × Bytes)) × Bytes → Type 0 = λ p. IsContent clients p.0 × V p.1 in
      let spell : (ℕ × (ℕ × Bytes)) × Bytes → Bytes = λ p. content_bytes p.0 ++ p.1 in
      let make : (ℕ × (ℕ × Bytes)) × Bytes → Command =
      λ p. record { client = p.0.0; seq = p.0.1.0; payload = p.0.1.1; vector = p.1 } in
      let back : Command → (ℕ × (ℕ × Bytes)) × Bytes = λ c. ((c.client, (c.seq, c.payload)), c.vector) in
      let exact = IsExact-made P spell (both (content_in clients) (vector_in n)) all make back (λ p. refl)
      (λ c. refl) in
      IsExact-same (λ c. P (back c)) (λ c. spell (back c)) (command_in n clients) exact (IsCommand sizes)
      command_bytes
      (λ c h. record { client = h.0.0; seq = h.0.1.0; payload = h.0.1.1; vector = h.1 })
      (λ c h. ((h.client, (h.seq, h.payload)), h.vector))
      (λ c. refl)

  pub IsExact-core : IsExact (IsCore sizes) core_bytes (core_in sizes)
  unfolding core_in commands_in
  IsExact-core =
      let command = IsExact-command in
      let read = command_in (replicas sizes) sizes.clients in
      let test : ℕ → Bool = λ k. nat_le k MOST_COMMANDS in
      let lists = IsExact-counted (IsCommand sizes) command_bytes test (many read)
      (AllByRecursion (IsCommand sizes)) (IsExact-many (IsCommand sizes) command_bytes read command) in
      let C : List Command → Type 0 =
      λ cs. ((length cs < 256) × (test (length cs) ≡ true)) × AllByRecursion (IsCommand sizes) cs in
      let spell_commands : List Command → Bytes = λ cs. length cs ∷ flat_map command_bytes cs in
      let H : ℕ × ℕ → Type 0 = λ h. ((1 ≤ h.0) × (h.0 < 2 ^ 64)) × (h.1 < h.0) in
      let spell_heights : ℕ × ℕ → Bytes = λ h. to_be_bytes w64 h.0 ++ to_be_bytes w64 h.1 in
      let last = IsExact-both H spell_heights heights_in IsExact-heights C spell_commands
      (commands_in sizes) lists in
      let L : (ℕ × ℕ) × List Command → Type 0 = λ p. H p.0 × C p.1 in
      let spell_last : (ℕ × ℕ) × List Command → Bytes = λ p. spell_heights p.0 ++ spell_commands p.1 in
      let all = IsExact-both (λ b. length b ≡ 32) (λ b. b) digest_in IsExact-digest L spell_last
      (both heights_in (commands_in sizes)) last in
      let P : Bytes × ((ℕ × ℕ) × List Command) → Type 0 = λ p. (length p.0 ≡ 32) × L p.1 in
      let spell : Bytes × ((ℕ × ℕ) × List Command) → Bytes = λ p. p.0 ++ spell_last p.1 in
      let make : Bytes × ((ℕ × ℕ) × List Command) → Core =
      λ p. record { parent = p.0; height = p.1.0.0; justify_height = p.1.0.1; commands = p.1.1 } in
      let back : Core → Bytes × ((ℕ × ℕ) × List Command) =
      λ k. (k.parent, ((k.height, k.justify_height), k.commands)) in
      let exact = IsExact-made P spell (both digest_in (both heights_in (commands_in sizes))) all make back
      (λ p. refl) (λ k. refl) in
      IsExact-same (λ k. P (back k)) (λ k. spell (back k)) (core_in sizes) exact (IsCore sizes) core_bytes
      (λ k h. record {
        parent = h.0;
        height = h.1.0.0;
        justify_height = h.1.0.1;
        count = leb-true _ _ h.1.1.0.1;
        commands = h.1.1.1;
      })
      (λ k h. (
        h.parent,
        (
          (h.height, h.justify_height),
          ((few_commands (length k.commands) h.count, le-leb _ _ h.count), h.commands),
        ),
      ))
      (λ k. simp append_assoc)
