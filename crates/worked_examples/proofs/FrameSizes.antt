-- How many bytes a certificate has with four replicas, and the frames that carry one.
use Rattle.std.proofs.Common.{ℕ, ◌+◌, ◌*◌, ◌≡◌, List, [], ◌∷◌, ◌++◌, length, refl, ap, arith, length-append}
use Rattle.std.specs.List.{flat_map, AllByRecursion}
use Rattle.ids.specs.Sizes.{Sizes}
use Rattle.definitions.specs.Bytes.{Bytes}
use Rattle.definitions.specs.Frames.{Core, Vote, Certificate, proposal, new_view, block, core_bytes}
use Rattle.definitions.specs.Frames.{vote_bytes, certificate_bytes, spelling}
use Rattle.definitions.specs.FrameLimits.{IsCore, IsVote, IsCertificate, IsFrame}
use Rattle.worked_examples.specs.Frames.{AreFour, SizeByVotes}

-- what grows by 130 bytes a vote, from `least` on
pub by_votes : (q : Certificate) (bytes : Bytes) (least : ℕ) → length bytes ≡ least + 130 * length q.votes
    → SizeByVotes q bytes least (least + 390)
by_votes q bytes least e =
    ((λ none. let count : length q.votes ≡ 0 = ap length none in omega arith), (λ three. omega arith))

module _ (sizes : Sizes) (four : AreFour sizes) where
  -- a vote has 130 bytes
  length-votes : (votes : List Vote) → AllByRecursion (IsVote sizes) votes
      → length (flat_map vote_bytes votes) ≡ 130 * length votes
  length-votes [] h = refl
  length-votes (v ∷ votes) h = simp length-append (omega (arith, h.0.vector, length-votes votes h.1))

  -- a certificate has 33 bytes and its votes
  pub length-certificate_bytes : (q : Certificate) → IsCertificate sizes q
      → length (certificate_bytes q) ≡ 33 + 130 * length q.votes
  length-certificate_bytes q h = simp length-append (omega (arith, h.digest, length-votes q.votes h.votes))

  -- a core without commands has 49 bytes
  length-core_bytes : (k : Core) → IsCore sizes k → k.commands ≡ [] → length (core_bytes k) ≡ 49
  length-core_bytes k h none = rw none (simp length-append (omega (arith, h.parent)))

  -- a core and a certificate have 82 bytes and the votes
  length-core_and_certificate : (k : Core) (q : Certificate) → IsCore sizes k → IsCertificate sizes q
      → k.commands ≡ []
      → length (core_bytes k ++ certificate_bytes q) ≡ 82 + 130 * length q.votes
  length-core_and_certificate k q hk hq none =
      let sum = length-append (core_bytes k) (certificate_bytes q) in
      let core = length-core_bytes k hk none in
      let cert = length-certificate_bytes q hq in
      omega arith

  -- a Proposal has the mark, its kind, its view, these and a vector
  pub length-proposal : (view : ℕ) (k : Core) (q : Certificate) (vector : Bytes)
      → IsFrame sizes (proposal view k q vector) → k.commands ≡ []
      → length (spelling (proposal view k q vector)) ≡ 220 + 130 * length q.votes
  length-proposal view k q vector h none =
      let both = length-core_and_certificate k q h.1 h.2 none in
      let sum = length-append (core_bytes k ++ certificate_bytes q) vector in
      let len = h.3 in
      omega arith

  -- a Block has the mark, its kind, its sender, these and a tag
  pub length-block : (sender : ℕ) (k : Core) (q : Certificate) (tag : Bytes)
      → IsFrame sizes (block sender k q tag) → k.commands ≡ []
      → length (spelling (block sender k q tag)) ≡ 118 + 130 * length q.votes
  length-block sender k q tag h none =
      let both = length-core_and_certificate k q h.1 h.2 none in
      let sum = length-append (core_bytes k ++ certificate_bytes q) tag in
      let len = h.3 in
      omega arith

  -- a NewView has the mark, its kind, its view, its sender, a certificate and a vector
  pub length-new_view : (view sender : ℕ) (q : Certificate) (vector : Bytes)
      → IsFrame sizes (new_view view sender q vector)
      → length (spelling (new_view view sender q vector)) ≡ 173 + 130 * length q.votes
  length-new_view view sender q vector h =
      let cert = length-certificate_bytes q h.2 in
      let sum = length-append (certificate_bytes q) vector in
      let len = h.3 in
      omega arith
