-- How long a frame of the grammar is at most.
use Rattle.std.proofs.Common.{◌≡◌, ℕ, ◌+◌, ◌*◌, ◌<◌, ◌≤◌, ◌⊎◌, Bool, true, false, List, [], ◌∷◌, ◌++◌, length}
use Rattle.std.proofs.Common.{ap, inl, inr, arith, length-append, mul-le-mul_right, suc-mul, suc, rules}
use Rattle.std.proofs.lemmas.Bool.{cases_lt}
use Rattle.std.specs.Prelude.{nat_le, if◌then◌else◌}
use Rattle.std.specs.List.{flat_map, AllByRecursion}
use Rattle.std.specs.Int.{w16, w32, w64, to_be_bytes}
use Rattle.ids.specs.Sizes.{Sizes, AreSizes, replicas, quorum}
use Rattle.definitions.specs.Bytes.{Bytes}
use Rattle.definitions.specs.Frames.{Command, Core, Vote, Certificate, Frame, request, proposal, vote, new_view}
use Rattle.definitions.specs.Frames.{reply, fetch, block, command_content, command_bytes, core_bytes, vote_bytes}
use Rattle.definitions.specs.Frames.{certificate_bytes, middle, tags}
use Rattle.definitions.specs.FrameLimits.{IsCommand, IsCore, IsVote, IsCertificate, IsFrame, CarriesCut, Spells}
use Rattle.wire_frames.specs.Longest.{vector_len, command_len, longest_frame}

-- ---- the parts

-- a command is no longer than the longest
length-command : (sizes : Sizes) (c : Command) → IsCommand sizes c → length (command_bytes c) ≤ command_len sizes
length-command sizes c is =
    omega (
      arith,
      is.payload,
      is.vector,
      length-append (command_content c.client c.seq c.payload) c.vector,
    )

-- so many commands are no longer than as many of the longest
length-commands : (sizes : Sizes) (cs : List Command) → AllByRecursion (IsCommand sizes) cs
    → length (flat_map command_bytes cs) ≤ length cs * command_len sizes
length-commands sizes [] all = omega arith
length-commands sizes (c ∷ cs) all =
    omega (
      arith,
      length-append (command_bytes c) (flat_map command_bytes cs),
      length-command sizes c all.0,
      length-commands sizes cs all.1,
      suc-mul (length cs) (command_len sizes),
    )

-- votes are of one length
pub length-votes : (sizes : Sizes) (vs : List Vote) → AllByRecursion (IsVote sizes) vs
    → length (flat_map vote_bytes vs) ≡ length vs * (2 + vector_len sizes)
length-votes sizes [] all = omega arith
length-votes sizes (v ∷ vs) all =
    omega (
      arith,
      length-append (vote_bytes v) (flat_map vote_bytes vs),
      length-append (to_be_bytes w16 v.voter) v.vector,
      all.0.vector,
      length-votes sizes vs all.1,
      suc-mul (length vs) (2 + vector_len sizes),
    )

-- a core
length-core : (sizes : Sizes) (k : Core) → IsCore sizes k
    → length (core_bytes k) ≤ 49 + length k.commands * command_len sizes
length-core sizes k is =
    omega (
      arith,
      is.parent,
      length-append (((k.parent ++ to_be_bytes w64 k.height) ++ to_be_bytes w64 k.justify_height))
          (length k.commands ∷ flat_map command_bytes k.commands),
      length-append (k.parent ++ to_be_bytes w64 k.height) (to_be_bytes w64 k.justify_height),
      length-append k.parent (to_be_bytes w64 k.height),
      length-commands sizes k.commands is.commands,
    )

-- with as many commands as it may have
length-core_most : (sizes : Sizes) (k : Core) → IsCore sizes k
    → length (core_bytes k) ≤ 49 + 16 * command_len sizes
length-core_most sizes k is =
    omega (
      arith,
      length-core sizes k is,
      mul-le-mul_right (command_len sizes) is.count,
    )

-- a certificate
length-certificate : (sizes : Sizes) (q : Certificate) → IsCertificate sizes q
    → length (certificate_bytes q) ≡ 33 + length q.votes * (2 + vector_len sizes)
length-certificate sizes q is =
    omega (
      arith,
      is.digest,
      length-append q.digest (length q.votes ∷ flat_map vote_bytes q.votes),
      length-votes sizes q.votes is.votes,
    )

-- ---- frames

-- how many votes its certificate has
abbrev pub carried : Frame → ℕ
carried (proposal view k q vector) = length q.votes
carried (new_view view sender q vector) = length q.votes
carried (block sender k q tag) = length q.votes
carried frame = 0

-- what stands behind the head of a frame that carries so many votes
abbrev pub most_behind : Sizes → ℕ → ℕ
most_behind sizes votes =
    8 + 49 + 16 * command_len sizes + 33 + votes * (2 + vector_len sizes) + vector_len sizes

-- no more does
pub length-behind : (sizes : Sizes) (frame : Frame) → AreSizes sizes → IsFrame sizes frame
    → length (middle frame ++ tags frame) ≤ most_behind sizes (carried frame)
length-behind sizes (request c) are is = omega (arith, are, length-command sizes c is)
length-behind sizes (proposal view k q vector) are is =
    omega (
      arith,
      are,
      is.3,
      length-append ((to_be_bytes w64 view ++ core_bytes k) ++ certificate_bytes q) vector,
      length-append (to_be_bytes w64 view ++ core_bytes k) (certificate_bytes q),
      length-append (to_be_bytes w64 view) (core_bytes k),
      length-core_most sizes k is.1,
      length-certificate sizes q is.2,
    )
length-behind sizes (vote digest v) are is =
    omega (
      arith,
      are,
      is.0,
      is.1.vector,
      length-append (digest ++ to_be_bytes w16 v.voter) v.vector,
      length-append digest (to_be_bytes w16 v.voter),
    )
length-behind sizes (new_view view sender q vector) are is =
    omega (
      arith,
      are,
      is.3,
      length-append ((to_be_bytes w64 view ++ to_be_bytes w16 sender) ++ certificate_bytes q) vector,
      length-append (to_be_bytes w64 view ++ to_be_bytes w16 sender) (certificate_bytes q),
      length-certificate sizes q is.2,
    )
length-behind sizes (reply replica client seq place text tag) are is =
    omega (
      arith,
      are,
      is.4,
      is.5,
      length-append (middle (reply replica client seq place text tag)) tag,
      length-append ((((to_be_bytes w16 replica ++ to_be_bytes w16 client) ++ to_be_bytes w64 seq)
          ++ to_be_bytes w64 place) ++ to_be_bytes w32 (length text)) text,
    )
length-behind sizes (fetch sender digest tag) are is =
    omega (
      arith,
      are,
      is.1,
      is.2,
      length-append (to_be_bytes w16 sender ++ digest) tag,
      length-append (to_be_bytes w16 sender) digest,
    )
length-behind sizes (block sender k q tag) are is =
    omega (
      arith,
      are,
      is.3,
      length-append ((to_be_bytes w16 sender ++ core_bytes k) ++ certificate_bytes q) tag,
      length-append (to_be_bytes w16 sender ++ core_bytes k) (certificate_bytes q),
      length-append (to_be_bytes w16 sender) (core_bytes k),
      length-core_most sizes k is.1,
      length-certificate sizes q is.2,
    )

-- the votes of a certificate
votes_most : (sizes : Sizes) (q : Certificate) → IsCertificate sizes q → length q.votes ≤ replicas sizes
votes_most sizes q is = elim is.count [ inl none ↦ omega (arith, none) | inr some ↦ some.1 ]

-- at most all replicas vote
carried_most : (sizes : Sizes) (frame : Frame) → IsFrame sizes frame → carried frame ≤ replicas sizes
carried_most sizes (request c) is = omega arith
carried_most sizes (proposal view k q vector) is = votes_most sizes q is.2
carried_most sizes (vote digest v) is = omega arith
carried_most sizes (new_view view sender q vector) is = votes_most sizes q is.2
carried_most sizes (reply replica client seq place text tag) is = omega arith
carried_most sizes (fetch sender digest tag) is = omega arith
carried_most sizes (block sender k q tag) is = votes_most sizes q is.2

-- of a cut certificate, at most a quorum's
votes_cut : (sizes : Sizes) (q : Certificate) → (length q.votes ≡ 0) ⊎ (length q.votes ≡ quorum sizes)
    → length q.votes ≤ quorum sizes
votes_cut sizes q cut = elim cut [ inl none ↦ omega (arith, none) | inr some ↦ omega (arith, some) ]

carried_cut : (sizes : Sizes) (frame : Frame) → CarriesCut sizes frame → carried frame ≤ quorum sizes
carried_cut sizes (request c) cut = omega arith
carried_cut sizes (proposal view k q vector) cut = votes_cut sizes q cut
carried_cut sizes (vote digest v) cut = omega arith
carried_cut sizes (new_view view sender q vector) cut = votes_cut sizes q cut
carried_cut sizes (reply replica client seq place text tag) cut = omega arith
carried_cut sizes (fetch sender digest tag) cut = omega arith
carried_cut sizes (block sender k q tag) cut = votes_cut sizes q cut

-- ---- the longest

-- with more votes there is more behind the head
more_votes : (sizes : Sizes) (few many : ℕ) → few ≤ many → most_behind sizes few ≤ most_behind sizes many
more_votes sizes few many le = omega (arith, mul-le-mul_right (2 + vector_len sizes) le)

-- one vote more is more than a mark
one_vote_more : (sizes : Sizes) (few many : ℕ) → few < many → most_behind sizes few + 1 ≤ most_behind sizes many
one_vote_more sizes few many lt =
    omega (
      arith,
      more_votes sizes (suc few) many (omega arith),
      suc-mul few (2 + vector_len sizes),
    )

-- the longest frame where version 1 is read, and where it isn't
longest_old : (sizes : Sizes) (b : Bool) → b ≡ true → (if b then 1 else 2) + 8 + 49 + 16 * command_len sizes + 33
    + (if b then replicas sizes else quorum sizes) * (2 + vector_len sizes) + vector_len sizes
    ≡ 1 + most_behind sizes (replicas sizes)
longest_old sizes true e = omega arith
longest_old sizes false e = absurd cc

longest_new : (sizes : Sizes) (b : Bool) → b ≡ false → (if b then 1 else 2) + 8 + 49 + 16 * command_len sizes + 33
    + (if b then replicas sizes else quorum sizes) * (2 + vector_len sizes) + vector_len sizes
    ≡ 2 + most_behind sizes (quorum sizes)
longest_new sizes true e = absurd cc
longest_new sizes false e = omega arith

pub longest_of_old : (sizes : Sizes) → sizes.faults ≤ 4
    → longest_frame sizes ≡ 1 + most_behind sizes (replicas sizes)
longest_of_old sizes le = longest_old sizes (nat_le sizes.faults 4) (search rules)

pub longest_of_new : (sizes : Sizes) → 4 < sizes.faults
    → longest_frame sizes ≡ 2 + most_behind sizes (quorum sizes)
longest_of_new sizes lt = longest_new sizes (nat_le sizes.faults 4) (search rules)

-- none is longer, in version 2 and in version 1
of_version_two : (sizes : Sizes) (len votes : ℕ) → len ≤ 2 + most_behind sizes votes
    → votes ≤ quorum sizes → AreSizes sizes → (4 < sizes.faults) ⊎ (sizes.faults ≤ 4) → len ≤ longest_frame sizes
of_version_two sizes len votes is le are (inr old) =
    omega (
      arith,
      is,
      longest_of_old sizes old,
      one_vote_more sizes votes (replicas sizes) (omega (arith, le, are.0)),
    )
of_version_two sizes len votes is le are (inl new) =
    omega (arith, is, longest_of_new sizes new, more_votes sizes votes (quorum sizes) le)

pub none_is_longer : (sizes : Sizes) (bytes : Bytes) (frame : Frame) → AreSizes sizes → Spells sizes bytes frame
    → length bytes ≤ longest_frame sizes
none_is_longer sizes bytes frame are spells =
    let behind = length-behind sizes frame are spells.0 in
    elim spells.1 [
      | inl old ↦ omega (
        arith,
        ap (λ (l : Bytes). length l) old.1,
        behind,
        longest_of_old sizes old.0,
        more_votes sizes (carried frame) (replicas sizes) (carried_most sizes frame spells.0),
      )
      | inr new ↦ of_version_two sizes (length bytes) (carried frame)
          (omega (arith, ap (λ (l : Bytes). length l) new.1, behind)) (carried_cut sizes frame new.0) are
          (cases_lt 4 sizes.faults)
    ]
