-- Which values are frames at given sizes, and which bytes spell them.
use Rattle.std.specs.Prelude.{◌≡◌, ◌*◌, ◌^◌, ◌<◌, ◌≤◌, ◌⊎◌, List, [], ◌∷◌, length, Option, Some, None, ⊤}
use Rattle.std.specs.List.{AllByRecursion}
use Rattle.ids.specs.Sizes.{Sizes, replicas, quorum}
use Rattle.ids.specs.declared.limits.TheConstants.{MOST_COMMANDS, MOST_PAYLOAD, MOST_TEXT}
use Rattle.ids.specs.declared.limits.TheConstants.{MOST_FAULTS_OF_VERSION_ONE}
use Rattle.definitions.specs.Bytes.{Bytes}
use Rattle.definitions.specs.Tags.{tag_len}
use Rattle.definitions.specs.Frames.{Command, Core, Vote, Certificate, Frame, request, proposal, vote}
use Rattle.definitions.specs.Frames.{new_view, reply, fetch, block, old_spelling, spelling}

-- a digest of SHA-256 (FIPS 180-4)
abbrev pub IsDigest : Bytes → Type 0
IsDigest bytes = length bytes ≡ 32

-- a whole tag
abbrev pub IsTag : Bytes → Type 0
IsTag bytes = length bytes ≡ tag_len

-- a tag for each replica
abbrev pub IsVector : Sizes → Bytes → Type 0
IsVector sizes bytes = length bytes ≡ tag_len * replicas sizes

-- the limits of a command's numbers and payload
pub record IsCommand (sizes : Sizes) (c : Command) : Type 0 where
  pub client : c.client < sizes.clients
  pub seq : (1 ≤ c.seq) × (c.seq < 2 ^ 64)
  pub payload : length c.payload ≤ MOST_PAYLOAD
  pub vector : IsVector sizes c.vector

-- above genesis, at most 16 commands, and a block below is justified
pub record IsCore (sizes : Sizes) (k : Core) : Type 0 where
  pub parent : IsDigest k.parent
  pub height : (1 ≤ k.height) × (k.height < 2 ^ 64)
  pub justify_height : k.justify_height < k.height
  pub count : length k.commands ≤ MOST_COMMANDS
  pub commands : AllByRecursion (IsCommand sizes) k.commands

-- of a replica, with a tag for each replica
pub record IsVote (sizes : Sizes) (v : Vote) : Type 0 where
  pub voter : v.voter < replicas sizes
  pub vector : IsVector sizes v.vector

-- each voter's number is below the next one's
abbrev pub Rise : List Vote → Type 0
Rise [] = ⊤
Rise (v ∷ []) = ⊤
Rise (v ∷ w ∷ votes) = (v.voter < w.voter) × Rise (w ∷ votes)

-- no votes, as genesis has, or a quorum to all of them, each voter once and in order
pub record IsCertificate (sizes : Sizes) (q : Certificate) : Type 0 where
  pub digest : IsDigest q.digest
  pub count : (length q.votes ≡ 0) ⊎ ((quorum sizes ≤ length q.votes) × (length q.votes ≤ replicas sizes))
  pub votes : AllByRecursion (IsVote sizes) q.votes
  pub rising : Rise q.votes

-- the frames that there are
abbrev pub IsFrame : Sizes → Frame → Type 0
IsFrame sizes (request c) = IsCommand sizes c
IsFrame sizes (proposal view k q vector) =
    (view < 2 ^ 64) × IsCore sizes k × IsCertificate sizes q × IsVector sizes vector
IsFrame sizes (vote digest v) = IsDigest digest × IsVote sizes v
IsFrame sizes (new_view view sender q vector) =
    (view < 2 ^ 64) × (sender < replicas sizes) × IsCertificate sizes q × IsVector sizes vector
IsFrame sizes (reply replica client seq place text tag) =
    (replica < replicas sizes) × (client < sizes.clients)
    × ((1 ≤ seq) × (seq < 2 ^ 64)) × ((1 ≤ place) × (place < 2 ^ 64)) × (length text ≤ MOST_TEXT) × IsTag tag
IsFrame sizes (fetch sender digest tag) = (sender < replicas sizes) × IsDigest digest × IsTag tag
IsFrame sizes (block sender k q tag) =
    (sender < replicas sizes) × IsCore sizes k × IsCertificate sizes q × IsTag tag

-- a certificate as it is passed on has no votes, or exactly a quorum
abbrev pub IsCut : Sizes → Certificate → Type 0
IsCut sizes q = (length q.votes ≡ 0) ⊎ (length q.votes ≡ quorum sizes)

-- so has that of a frame, where it carries one
abbrev pub CarriesCut : Sizes → Frame → Type 0
CarriesCut sizes (proposal view k q vector) = IsCut sizes q
CarriesCut sizes (new_view view sender q vector) = IsCut sizes q
CarriesCut sizes (block sender k q tag) = IsCut sizes q
CarriesCut sizes frame = ⊤

-- the frames that are written, in version 2
abbrev pub IsWritten : Sizes → Frame → Type 0
IsWritten sizes frame = IsFrame sizes frame × CarriesCut sizes frame

-- the bytes are a frame, and which one: a relation between bytes and values. Version 1 is read up to four
-- faulty replicas
abbrev pub Spells : Sizes → Bytes → Frame → Type 0
Spells sizes bytes frame = IsFrame sizes frame
    × (((sizes.faults ≤ MOST_FAULTS_OF_VERSION_ONE) × (bytes ≡ old_spelling frame))
    ⊎ (CarriesCut sizes frame × (bytes ≡ spelling frame)))

-- what the bytes are read as: the frame that they spell, or none where they spell none
abbrev pub IsReadAs : Sizes → Bytes → Option Frame → Type 0
IsReadAs sizes bytes (Some frame) = Spells sizes bytes frame
IsReadAs sizes bytes None = (frame : Frame) → Spells sizes bytes frame → ⊥
