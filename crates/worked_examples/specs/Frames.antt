-- How many bytes frames and their parts have with four replicas, which versions of them are read, and what
-- spellings and vectors determine.
use Rattle.std.specs.Prelude.{◌≡◌, ℕ, ◌+◌, ◌<◌, true, false, [], ◌∷◌, ◌++◌, length, drop, replicate, Option}
use Rattle.std.specs.Prelude.{Some, None}
use Rattle.ids.specs.declared.kind.Kind.{Kind}
use Rattle.ids.specs.Sizes.{Sizes, AreSizes, replicas}
use Rattle.definitions.specs.Bytes.{Bytes}
use Rattle.definitions.specs.Frames.{Command, Core, Vote, Certificate, Frame, request, proposal, vote}
use Rattle.definitions.specs.Frames.{new_view, reply, fetch, block, command_bytes, core_bytes, vote_bytes}
use Rattle.definitions.specs.Frames.{certificate_bytes, genesis_core, middle, tags, old_spelling, spelling}
use Rattle.definitions.specs.Frames.{version_of, head_len}
use Rattle.definitions.specs.FrameLimits.{IsCommand, IsCore, IsVote, IsCertificate, IsVector, IsFrame}
use Rattle.definitions.specs.FrameLimits.{IsWritten, IsReadAs}
use Rattle.definitions.specs.Checks.{Identity, vote_verifies, cut}
use Rattle.definitions.specs.Tags.{tag_of}
use Rattle.definitions.specs.Keyrings.{Keyring, tag_for, vector_for}

-- ---- sizes

-- sizes with four replicas, one of which may be faulty
abbrev pub AreFour : Sizes → Type 0
AreFour sizes = sizes.faults ≡ 1

-- so many bytes where the certificate has no votes, as that of genesis, and so many where it has three, a
-- quorum of four
abbrev pub SizeByVotes : Certificate → Bytes → ℕ → ℕ → Type 0
SizeByVotes q bytes with_none with_three =
    (q.votes ≡ [] → length bytes ≡ with_none) × (length q.votes ≡ 3 → length bytes ≡ with_three)

-- a command has 140 bytes and those of its payload
abbrev pub CommandSize : Type 0
CommandSize =
    (sizes : Sizes) (c : Command) → AreFour sizes → IsCommand sizes c
    → length (command_bytes c) ≡ 140 + length c.payload

-- a core without commands has 49 bytes
abbrev pub CoreSize : Type 0
CoreSize =
    (sizes : Sizes) (k : Core) → AreFour sizes → IsCore sizes k → k.commands ≡ [] → length (core_bytes k) ≡ 49

-- a vote in a certificate has 130 bytes
abbrev pub VoteSize : Type 0
VoteSize = (sizes : Sizes) (v : Vote) → AreFour sizes → IsVote sizes v → length (vote_bytes v) ≡ 130

-- a certificate has 33 bytes without votes and 423 with three
abbrev pub CertificateSize : Type 0
CertificateSize =
    (sizes : Sizes) (q : Certificate) → AreFour sizes → IsCertificate sizes q
    → SizeByVotes q (certificate_bytes q) 33 423

-- the core of genesis is 49 zero bytes
abbrev pub GenesisBytes : Type 0
GenesisBytes = core_bytes genesis_core ≡ replicate 49 0

-- a Request has 142 bytes and those of the payload
abbrev pub RequestSize : Type 0
RequestSize =
    (sizes : Sizes) (c : Command) → AreFour sizes → IsFrame sizes (request c)
    → length (spelling (request c)) ≡ 142 + length c.payload

-- a Reply has 58 bytes and those of the text
abbrev pub ReplySize : Type 0
ReplySize =
    (sizes : Sizes) (replica client seq place : ℕ) (text tag : Bytes) → AreFour sizes
    → IsFrame sizes (reply replica client seq place text tag)
    → length (spelling (reply replica client seq place text tag)) ≡ 58 + length text

-- a Proposal of a block without commands has 220 bytes without votes and 610 with three
abbrev pub ProposalSize : Type 0
ProposalSize =
    (sizes : Sizes) (view : ℕ) (k : Core) (q : Certificate) (vector : Bytes) → AreFour sizes
    → IsFrame sizes (proposal view k q vector)
    → k.commands ≡ [] → SizeByVotes q (spelling (proposal view k q vector)) 220 610

-- a Block without commands has 118 bytes without votes and 508 with three
abbrev pub BlockSize : Type 0
BlockSize =
    (sizes : Sizes) (sender : ℕ) (k : Core) (q : Certificate) (tag : Bytes) → AreFour sizes
    → IsFrame sizes (block sender k q tag)
    → k.commands ≡ [] → SizeByVotes q (spelling (block sender k q tag)) 118 508

-- a Vote has 164 bytes
abbrev pub VoteFrameSize : Type 0
VoteFrameSize =
    (sizes : Sizes) (digest : Bytes) (v : Vote) → AreFour sizes → IsFrame sizes (vote digest v)
    → length (spelling (vote digest v)) ≡ 164

-- a NewView has 173 bytes without votes and 563 with three
abbrev pub NewViewSize : Type 0
NewViewSize =
    (sizes : Sizes) (view sender : ℕ) (q : Certificate) (vector : Bytes) → AreFour sizes
    → IsFrame sizes (new_view view sender q vector)
    → SizeByVotes q (spelling (new_view view sender q vector)) 173 563

-- a Fetch has 68 bytes
abbrev pub FetchSize : Type 0
FetchSize =
    (sizes : Sizes) (sender : ℕ) (digest tag : Bytes) → AreFour sizes
    → IsFrame sizes (fetch sender digest tag)
    → length (spelling (fetch sender digest tag)) ≡ 68

-- ---- versions

-- version 2 has one byte more, the first one, which is 130; the first byte tells the version
abbrev pub VersionsAreTold : Type 0
VersionsAreTold =
    (f : Frame) → (spelling f ≡ 130 ∷ old_spelling f)
    × (version_of (old_spelling f) ≡ Some 1) × (version_of (spelling f) ≡ Some 2)

-- no bytes have no version, nor have bytes that begin with 0, which is no kind, or with 131
abbrev pub OthersHaveNoVersion : Type 0
OthersHaveNoVersion =
    (bytes : Bytes) → (version_of [] ≡ None) × (version_of (0 ∷ bytes) ≡ None)
    × (version_of (131 ∷ bytes) ≡ None)

-- behind the head, of one byte in version 1 and of two in version 2, stand the middle and the tags
abbrev pub HeadsAreShort : Type 0
HeadsAreShort =
    (f : Frame) → (head_len (old_spelling f) ≡ 1) × (head_len (spelling f) ≡ 2)
    × (drop 1 (old_spelling f) ≡ middle f ++ tags f) × (drop 2 (spelling f) ≡ middle f ++ tags f)

-- with four replicas the bytes of a frame in each version are read as it, if a certificate in it has no
-- votes or three
abbrev pub BothVersionsAreRead : Type 0
BothVersionsAreRead =
    (sizes : Sizes) (f : Frame) → AreFour sizes → IsWritten sizes f
    → IsReadAs sizes (old_spelling f) (Some f) × IsReadAs sizes (spelling f) (Some f)

-- a fourth vote of four replicas is read in version 1, and not in version 2
abbrev pub FourthVoteIsOfVersionOne : Type 0
FourthVoteIsOfVersionOne =
    (sizes : Sizes) (view : ℕ) (k : Core) (q : Certificate) (vector : Bytes) → AreSizes sizes
    → AreFour sizes → IsFrame sizes (proposal view k q vector) → length q.votes ≡ 4
    → IsReadAs sizes (old_spelling (proposal view k q vector)) (Some (proposal view k q vector))
    × IsReadAs sizes (spelling (proposal view k q vector)) None

-- sizes with sixteen replicas, five of which may be faulty
abbrev pub AreSixteen : Sizes → Type 0
AreSixteen sizes = sizes.faults ≡ 5

-- with sixteen replicas version 2 alone is read
abbrev pub VersionTwoAloneIsRead : Type 0
VersionTwoAloneIsRead =
    (sizes : Sizes) (f : Frame) → AreSixteen sizes → IsWritten sizes f
    → IsReadAs sizes (old_spelling f) None × IsReadAs sizes (spelling f) (Some f)

-- ---- certificates that are passed on

-- of four votes that verify for a replica of four, it passes on the first three
abbrev pub FirstThreeArePassedOn : Type 0
FirstThreeArePassedOn =
    (self : Identity) (q : Certificate) (a b c d : Vote) → AreFour self.sizes
    → q.votes ≡ a ∷ b ∷ c ∷ d ∷ []
    → vote_verifies self q.digest a ≡ true → vote_verifies self q.digest b ≡ true
    → vote_verifies self q.digest c ≡ true → vote_verifies self q.digest d ≡ true
    → (cut self q).votes ≡ a ∷ b ∷ c ∷ []

-- where the first one doesn't verify, it passes on the three others
abbrev pub OthersArePassedOn : Type 0
OthersArePassedOn =
    (self : Identity) (q : Certificate) (a b c d : Vote) → AreFour self.sizes
    → q.votes ≡ a ∷ b ∷ c ∷ d ∷ []
    → vote_verifies self q.digest a ≡ false → vote_verifies self q.digest b ≡ true
    → vote_verifies self q.digest c ≡ true → vote_verifies self q.digest d ≡ true
    → (cut self q).votes ≡ b ∷ c ∷ d ∷ []

-- ---- laws

-- two frames of one spelling are one frame, in version 2
abbrev pub SpellingIsOfOneFrame : Type 0
SpellingIsOfOneFrame =
    (sizes : Sizes) (f g : Frame) → AreSizes sizes → IsFrame sizes f → IsFrame sizes g
    → spelling f ≡ spelling g → f ≡ g

-- and in version 1
abbrev pub OldSpellingIsOfOneFrame : Type 0
OldSpellingIsOfOneFrame =
    (sizes : Sizes) (f g : Frame) → AreSizes sizes → IsFrame sizes f → IsFrame sizes g
    → old_spelling f ≡ old_spelling g → f ≡ g

-- bytes are read as one frame, or as none
abbrev pub BytesAreReadAsOneThing : Type 0
BytesAreReadAsOneThing =
    (sizes : Sizes) (bytes : Bytes) (a b : Option Frame) → AreSizes sizes → IsReadAs sizes bytes a
    → IsReadAs sizes bytes b → a ≡ b

-- a vector is a tag for each replica
abbrev pub VectorsAreWhole : Type 0
VectorsAreWhole =
    (sizes : Sizes) (ring : Keyring) (label : Kind) (content : Bytes)
    → IsVector sizes (vector_for sizes ring label content)

-- tag u of a vector is the tag for replica u
abbrev pub EachTagIsForItsReplica : Type 0
EachTagIsForItsReplica =
    (sizes : Sizes) (ring : Keyring) (label : Kind) (content : Bytes) (u : ℕ) → u < replicas sizes
    → tag_of (vector_for sizes ring label content) u ≡ tag_for ring label u content
