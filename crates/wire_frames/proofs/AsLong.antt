-- A frame that is as long as one can be: a proposal of the longest commands, with as many votes as may be.
use Rattle.std.proofs.Common.{◌≡◌, ℕ, zero, suc, ◌+◌, ◌*◌, ◌<◌, ◌≤◌, ◌⊎◌, List, [], ◌∷◌, ◌++◌, length}
use Rattle.std.proofs.Common.{refl, ap, inl, inr, arith, length-append, suc-mul, replicate}
use Rattle.std.proofs.lemmas.List.{length-replicate}
use Rattle.std.proofs.lemmas.Bool.{cases_lt}
use Rattle.std.specs.List.{flat_map, AllByRecursion}
use Rattle.std.specs.Int.{w64, to_be_bytes}
use Rattle.ids.specs.Sizes.{Sizes, AreSizes, replicas, quorum}
use Rattle.definitions.specs.Bytes.{Bytes}
use Rattle.definitions.specs.Frames.{Command, Core, Vote, Certificate, Frame, proposal, command_bytes, core_bytes}
use Rattle.definitions.specs.Frames.{vote_bytes, certificate_bytes, command_content, old_spelling, spelling}
use Rattle.definitions.specs.Frames.{middle, tags}
use Rattle.definitions.specs.FrameLimits.{IsCommand, IsVote, IsFrame, IsCertificate, Rise, Spells}
use Rattle.wire_frames.specs.Longest.{vector_len, longest_frame}
use Rattle.wire_frames.proofs.Lengths.{length-votes, longest_of_old, longest_of_new}

-- a vector of zeros
abbrev zeros : Sizes → Bytes
zeros sizes = replicate (vector_len sizes) 0

-- a command of so many bytes
abbrev command_of : Sizes → ℕ → Command
command_of sizes bytes =
    record { client = 0; seq = 1; payload = replicate bytes 0; vector = zeros sizes }

-- votes of so many replicas from one on
abbrev votes_of : Sizes → ℕ → ℕ → List Vote
votes_of sizes first zero = []
votes_of sizes first (suc count) = record { voter = first; vector = zeros sizes } ∷ votes_of sizes (suc first) count

length-votes_of : (sizes : Sizes) (first count : ℕ) → length (votes_of sizes first count) ≡ count
length-votes_of sizes first zero = refl
length-votes_of sizes first (suc count) = ap suc (length-votes_of sizes (suc first) count)

are_votes : (sizes : Sizes) (first count : ℕ) → first + count ≤ replicas sizes
    → AllByRecursion (IsVote sizes) (votes_of sizes first count)
are_votes sizes first zero le = tt
are_votes sizes first (suc count) le = (
  record { voter = omega (arith, le); vector = length-replicate {A = ℕ} (vector_len sizes) 0 },
  are_votes sizes (suc first) count (omega (arith, le)),
)

they_rise : (sizes : Sizes) (first count : ℕ) → Rise (votes_of sizes first count)
they_rise sizes first zero = tt
they_rise sizes first (suc zero) = tt
they_rise sizes first (suc (suc count)) = (omega arith, they_rise sizes (suc first) (suc count))

-- so many such commands
are_commands : (sizes : Sizes) (bytes count : ℕ) → AreSizes sizes → bytes ≤ 4608
    → AllByRecursion (IsCommand sizes) (replicate count (command_of sizes bytes))
are_commands sizes bytes zero are le = tt
are_commands sizes bytes (suc count) are le = (
  record {
    client = omega (arith, are);
    seq = (omega arith, omega arith);
    payload = omega (arith, le, length-replicate {A = ℕ} bytes 0);
    vector = length-replicate {A = ℕ} (vector_len sizes) 0;
  },
  are_commands sizes bytes count are le,
)

length-are_commands : (sizes : Sizes) (bytes count : ℕ)
    → length (flat_map command_bytes (replicate count (command_of sizes bytes)))
    ≡ count * (12 + bytes + vector_len sizes)
length-are_commands sizes bytes zero = omega arith
length-are_commands sizes bytes (suc count) =
    let c = command_of sizes bytes in
    omega (
      arith,
      length-append (command_bytes c) (flat_map command_bytes (replicate count c)),
      length-append (command_content c.client c.seq c.payload) c.vector,
      length-replicate {A = ℕ} bytes 0,
      length-replicate {A = ℕ} (vector_len sizes) 0,
      length-are_commands sizes bytes count,
      suc-mul count (12 + bytes + vector_len sizes),
    )

-- ---- the proposal

abbrev core_of : Sizes → (bytes count : ℕ) → Core
core_of sizes bytes count = record {
  parent = replicate 32 0;
  height = 1;
  justify_height = 0;
  commands = replicate count (command_of sizes bytes);
}

abbrev certificate_of : Sizes → ℕ → Certificate
certificate_of sizes votes = record { digest = replicate 32 0; votes = votes_of sizes 0 votes }

abbrev proposal_of : Sizes → (bytes count votes : ℕ) → Frame
proposal_of sizes bytes count votes =
    proposal 0 (core_of sizes bytes count) (certificate_of sizes votes) (zeros sizes)

is_certificate : (sizes : Sizes) (votes : ℕ) → quorum sizes ≤ votes → votes ≤ replicas sizes
    → IsCertificate sizes (certificate_of sizes votes)
is_certificate sizes votes least most = record {
  digest = refl;
  count = inr (omega (arith, length-votes_of sizes 0 votes), omega (arith, length-votes_of sizes 0 votes));
  votes = are_votes sizes 0 votes (omega (arith, most));
  rising = they_rise sizes 0 votes;
}

is_proposal : (sizes : Sizes) (bytes count votes : ℕ) → AreSizes sizes → bytes ≤ 4608 → count ≤ 16
    → quorum sizes ≤ votes → votes ≤ replicas sizes → IsFrame sizes (proposal_of sizes bytes count votes)
is_proposal sizes bytes count votes are le few least most = (
  omega arith,
  record {
    parent = refl;
    height = (omega arith, omega arith);
    justify_height = omega arith;
    count = omega (arith, few, length-replicate count (command_of sizes bytes));
    commands = are_commands sizes bytes count are le;
  },
  is_certificate sizes votes least most,
  length-replicate {A = ℕ} (vector_len sizes) 0,
)

length-proposal : (sizes : Sizes) (bytes count votes : ℕ) → votes ≤ replicas sizes
    → length (middle (proposal_of sizes bytes count votes) ++ tags (proposal_of sizes bytes count votes))
    ≡ 8 + 49 + count * (12 + bytes + vector_len sizes) + 33 + votes * (2 + vector_len sizes) + vector_len sizes
length-proposal sizes bytes count votes most =
    let k = core_of sizes bytes count in
    let q = certificate_of sizes votes in
    omega (
      arith,
      length-append ((to_be_bytes w64 0 ++ core_bytes k) ++ certificate_bytes q) (zeros sizes),
      length-append (to_be_bytes w64 0 ++ core_bytes k) (certificate_bytes q),
      length-append (to_be_bytes w64 0) (core_bytes k),
      length-append ((k.parent ++ to_be_bytes w64 k.height) ++ to_be_bytes w64 k.justify_height)
          (length k.commands ∷ flat_map command_bytes k.commands),
      length-are_commands sizes bytes count,
      length-append q.digest (length q.votes ∷ flat_map vote_bytes q.votes),
      length-votes sizes q.votes (are_votes sizes 0 votes (omega (arith, most))),
      ap (λ (n : ℕ). n * (2 + vector_len sizes)) (length-votes_of sizes 0 votes),
      length-replicate {A = ℕ} (vector_len sizes) 0,
    )

-- ---- it is as long

abbrev IsAsLong : Sizes → Type 0
IsAsLong sizes = (bytes : Bytes) × (frame : Frame) × Spells sizes bytes frame × (length bytes ≡ longest_frame sizes)

as_long : (sizes : Sizes) (bytes count : ℕ) → AreSizes sizes → bytes ≡ 4608 → count ≡ 16
    → (4 < sizes.faults) ⊎ (sizes.faults ≤ 4) → IsAsLong sizes
as_long sizes bytes count are longest most (inr old) =
    let frame = proposal_of sizes bytes count (replicas sizes) in (
      old_spelling frame,
      frame,
      (
        is_proposal sizes bytes count (replicas sizes) are (omega (arith, longest)) (omega (arith, most))
            (omega arith) (omega arith),
        inl (old, refl),
      ),
      omega (
        arith,
        length-proposal sizes bytes count (replicas sizes) (omega arith),
        ap (λ (n : ℕ). n * (12 + bytes + vector_len sizes)) most,
        longest,
        longest_of_old sizes old,
      ),
    )
as_long sizes bytes count are longest most (inl new) =
    let frame = proposal_of sizes bytes count (quorum sizes) in (
      spelling frame,
      frame,
      (
        is_proposal sizes bytes count (quorum sizes) are (omega (arith, longest)) (omega (arith, most))
            (omega arith) (omega arith),
        inr (inr (length-votes_of sizes 0 (quorum sizes)), refl),
      ),
      omega (
        arith,
        length-proposal sizes bytes count (quorum sizes) (omega arith),
        ap (λ (n : ℕ). n * (12 + bytes + vector_len sizes)) most,
        longest,
        longest_of_new sizes new,
      ),
    )

pub one_is_as_long : (sizes : Sizes) → AreSizes sizes → IsAsLong sizes
one_is_as_long sizes are = as_long sizes 4608 16 are refl refl (cases_lt 4 sizes.faults)
