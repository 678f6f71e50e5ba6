-- Frames: the messages between replicas and clients, and the one spelling of each in each of two versions.
-- Numbers are unsigned and big-endian, and lists are spelled in their order.
use Rattle.std.specs.Prelude.{ℕ, List, [], ◌∷◌, ◌++◌, ◌==◌, Bool, length, replicate, if◌then◌else◌}
use Rattle.std.specs.Prelude.{Option, Some, option_map, slice_index}
use Rattle.std.specs.List.{flat_map}
use Rattle.std.specs.Int.{w16, w32, w64, to_be_bytes}
use Rattle.ids.specs.declared.kind.Kind.{Kind}
use Rattle.ids.specs.declared.kind.Kind.TheVariants as kind
use Rattle.ids.specs.Numbers.{kind_number, kind_numbered}
use Rattle.ids.specs.declared.limits.TheConstants.{VERSION_TWO, HEAD_LEN}
use Rattle.ids.specs.Sizes.{Sizes, leader, client_party}
use Rattle.definitions.specs.Bytes.{Bytes}
use Rattle.definitions.specs.Tags.{tag_of}

-- ---- what a frame says

-- a client's numbered request; `vector` has the client's tag for each replica, one after the other
pub record Command : Type 0 where
  pub client : ℕ
  pub seq : ℕ
  pub payload : Bytes
  pub vector : Bytes

-- what the digest of a block is made of; it justifies the block of its branch that has this height
pub record Core : Type 0 where
  pub parent : Bytes
  pub height : ℕ
  pub justify_height : ℕ
  pub commands : List Command

-- a replica's vote, with its tag for each replica
pub record Vote : Type 0 where
  pub voter : ℕ
  pub vector : Bytes

-- votes for the block of this digest (HotStuff, PODC 2019, quorum certificate)
pub record Certificate : Type 0 where
  pub digest : Bytes
  pub votes : List Vote

-- the seven kinds
pub data Frame : Type 0 where
  request : Command → Frame
  proposal : (view : ℕ) → Core → Certificate → (vector : Bytes) → Frame
  vote : (digest : Bytes) → Vote → Frame
  new_view : (view : ℕ) (sender : ℕ) → Certificate → (vector : Bytes) → Frame
  reply : (replica : ℕ) (client : ℕ) (seq : ℕ) (place : ℕ) (text : Bytes) (tag : Bytes) → Frame
  fetch : (sender : ℕ) (digest : Bytes) (tag : Bytes) → Frame
  block : (sender : ℕ) → Core → Certificate → (tag : Bytes) → Frame

-- ---- the parts' bytes

-- what a client's tags for a command speak of
abbrev pub command_content : ℕ → ℕ → Bytes → Bytes
command_content client seq payload =
    to_be_bytes w16 client ++ to_be_bytes w64 seq ++ to_be_bytes w16 (length payload) ++ payload

-- a command and its vector
abbrev pub command_bytes : Command → Bytes
command_bytes c = command_content c.client c.seq c.payload ++ c.vector

-- a core that has so many commands, of their bytes
abbrev pub core_text : (parent : Bytes) (height justify_height count : ℕ) (commands : Bytes) → Bytes
core_text parent height justify_height count commands =
    parent ++ to_be_bytes w64 height ++ to_be_bytes w64 justify_height ++ count ∷ commands

-- the bytes of a core
abbrev pub core_bytes : Core → Bytes
core_bytes k =
    core_text k.parent k.height k.justify_height (length k.commands) (flat_map command_bytes k.commands)

-- the bytes of a vote
abbrev pub vote_bytes : Vote → Bytes
vote_bytes v = to_be_bytes w16 v.voter ++ v.vector

-- a certificate that has so many votes, of their bytes
abbrev pub certificate_text : (digest : Bytes) (count : ℕ) (votes : Bytes) → Bytes
certificate_text digest count votes = digest ++ count ∷ votes

-- the bytes of a certificate
abbrev pub certificate_bytes : Certificate → Bytes
certificate_bytes q = certificate_text q.digest (length q.votes) (flat_map vote_bytes q.votes)

-- what a proposal's tags speak of, of the bytes of its parts; a vote's speak of the digest alone
abbrev pub proposal_text : (view : ℕ) (core certificate : Bytes) → Bytes
proposal_text view core certificate = to_be_bytes w64 view ++ core ++ certificate

abbrev pub proposal_content : ℕ → Core → Certificate → Bytes
proposal_content view k q = proposal_text view (core_bytes k) (certificate_bytes q)

-- what a new view's tags speak of, of the bytes of its certificate
abbrev pub new_view_text : (view sender : ℕ) (certificate : Bytes) → Bytes
new_view_text view sender certificate = to_be_bytes w64 view ++ to_be_bytes w16 sender ++ certificate

abbrev pub new_view_content : ℕ → ℕ → Certificate → Bytes
new_view_content view sender q = new_view_text view sender (certificate_bytes q)

-- what a reply's tag speaks of
abbrev pub reply_content : ℕ → ℕ → ℕ → ℕ → Bytes → Bytes
reply_content replica client seq place text =
    to_be_bytes w16 replica ++ to_be_bytes w16 client ++ to_be_bytes w64 seq
    ++ to_be_bytes w64 place ++ to_be_bytes w32 (length text) ++ text

-- what a fetch's tag speaks of
abbrev pub fetch_content : ℕ → Bytes → Bytes
fetch_content sender digest = to_be_bytes w16 sender ++ digest

-- what a block's tag speaks of, of the bytes of its parts
abbrev pub block_text : (sender : ℕ) (core certificate : Bytes) → Bytes
block_text sender core certificate = to_be_bytes w16 sender ++ core ++ certificate

abbrev pub block_content : ℕ → Core → Certificate → Bytes
block_content sender k q = block_text sender (core_bytes k) (certificate_bytes q)

-- ---- its spelling

-- its kind, whose number stands before the middle and is the label of its tags
abbrev pub kind_of : Frame → Kind
kind_of (request c) = kind.Request
kind_of (proposal view k q vector) = kind.Proposal
kind_of (vote digest v) = kind.Vote
kind_of (new_view view sender q vector) = kind.NewView
kind_of (reply replica client seq place text tag) = kind.Reply
kind_of (fetch sender digest tag) = kind.Fetch
kind_of (block sender k q tag) = kind.Block

-- the bytes between the kind and the tags at the end
abbrev pub middle : Frame → Bytes
middle (request c) = command_content c.client c.seq c.payload
middle (proposal view k q vector) = proposal_content view k q
middle (vote digest v) = digest ++ to_be_bytes w16 v.voter
middle (new_view view sender q vector) = new_view_content view sender q
middle (reply replica client seq place text tag) = reply_content replica client seq place text
middle (fetch sender digest tag) = fetch_content sender digest
middle (block sender k q tag) = block_content sender k q

-- the tags at the end: a vector, or one tag
abbrev pub tags : Frame → Bytes
tags (request c) = c.vector
tags (proposal view k q vector) = vector
tags (vote digest v) = v.vector
tags (new_view view sender q vector) = vector
tags (reply replica client seq place text tag) = tag
tags (fetch sender digest tag) = tag
tags (block sender k q tag) = tag

-- the bytes of a frame in version 1: its kind, its middle and its tags
abbrev pub old_spelling : Frame → Bytes
old_spelling frame = kind_number (kind_of frame) ∷ middle frame ++ tags frame

-- the mark of version 2, and then the same
abbrev pub frame_text : (kind : ℕ) (middle tags : Bytes) → Bytes
frame_text kind middle tags = VERSION_TWO ∷ kind ∷ middle ++ tags

-- the bytes of a frame in version 2, in which frames are written
abbrev pub spelling : Frame → Bytes
spelling frame = frame_text (kind_number (kind_of frame)) (middle frame) (tags frame)

-- the bytes begin with the mark of version 2
abbrev pub is_marked : Bytes → Bool
is_marked bytes = slice_index bytes 0 == VERSION_TWO

-- the version of the bytes, which their first one tells
abbrev pub version_of : Bytes → Option ℕ
version_of bytes =
    if is_marked bytes then Some 2 else option_map (λ kind. 1) (kind_numbered (slice_index bytes 0))

-- how many of them stand before what the tags speak of: the mark, if any, and the kind
abbrev pub head_len : Bytes → ℕ
head_len bytes = if is_marked bytes then HEAD_LEN else 1

-- ---- its own tags

-- the party that sends it
abbrev pub sender_of : Sizes → Frame → ℕ
sender_of sizes (request c) = client_party c.client
sender_of sizes (proposal view k q vector) = leader sizes view
sender_of sizes (vote digest v) = v.voter
sender_of sizes (new_view view sender q vector) = sender
sender_of sizes (reply replica client seq place text tag) = replica
sender_of sizes (fetch sender digest tag) = sender
sender_of sizes (block sender k q tag) = sender

-- what its own tags speak of
abbrev pub content_of : Frame → Bytes
content_of (vote digest v) = digest
content_of frame = middle frame

-- its own tag for a party: that of its vector for this replica, or the one tag that it has
abbrev pub own_tag : Frame → ℕ → Bytes
own_tag (reply replica client seq place text tag) party = tag
own_tag (fetch sender digest tag) party = tag
own_tag (block sender k q tag) party = tag
own_tag frame party = tag_of (tags frame) party

-- ---- genesis

-- the core of genesis, which is in no frame: 49 zero bytes
abbrev pub genesis_core : Core
genesis_core = record { parent = replicate 32 0; height = 0; justify_height = 0; commands = [] }
