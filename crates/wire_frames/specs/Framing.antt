-- Frames on a wire, each behind its length, and what a feed gives of the bytes that came.
use Rattle.std.specs.Prelude.{◌≡◌, ℕ, ◌+◌, ◌<◌, ◌≤◌, ◌⊎◌, ◌^◌, List, [], ◌∷◌, ◌++◌, length, take, Option}
use Rattle.std.specs.Prelude.{Some, None, Result, Ok, Err, ⊤}
use Rattle.std.specs.Int.{w32, to_be_bytes, from_be_bytes}
use Rattle.std.specs.List.{flat_map, AllByRecursion}
use Rattle.definitions.specs.Bytes.{Bytes}
use Rattle.wire_frames.specs.declared.item.Item.{Item}
use Rattle.wire_frames.specs.declared.item.Item.TheVariants.{Frame, Ping}
use Rattle.wire_frames.specs.declared.wire_fault.WireFault.{WireFault}

-- ---- the spelling

-- a frame as it goes over a wire: four bytes of its length, and its bytes. One of no bytes is a ping
abbrev pub on_wire : Bytes → Bytes
on_wire frame = to_be_bytes w32 (length frame) ++ frame

-- such ones, one behind the other
abbrev pub stream : List Bytes → Bytes
stream frames = flat_map on_wire frames

-- how many bytes the length has
abbrev pub length_len : ℕ
length_len = 4

-- the length that the first four bytes tell
abbrev pub told : Bytes → ℕ
told bytes = from_be_bytes w32 (take length_len bytes)

-- the bytes end before a length, or before what it tells
abbrev pub IsUnfinished : ℕ → Bytes → Type 0
IsUnfinished longest bytes =
    (length bytes < length_len) ⊎ ((told bytes ≤ longest) × (length bytes < length_len + told bytes))

-- the bytes begin with a length that no item has
abbrev pub IsTooLong : ℕ → Bytes → Type 0
IsTooLong longest bytes = (length_len ≤ length bytes) × (longest < told bytes)

-- ---- a feed

-- what a feed is: the longest item that it takes, the longest piece, and the bytes that it holds
pub record Holding : Type 0 where
  pub longest : ℕ
  pub piece : ℕ
  pub held : Bytes

-- how many bytes it has room for: those of a frame and its length, and a piece more
abbrev pub most_held : (longest piece : ℕ) → ℕ
most_held longest piece = length_len + longest + piece

-- what a call says of what is held
pub data Answer : Type 0 where
  gave : (frame : Bytes) → Answer
  more : Answer
  refused : Answer

-- the bytes of an item
abbrev pub bytes_of : Item → Bytes
bytes_of (Frame bytes) = bytes.now
bytes_of Ping = []

-- what a call of `next` says
abbrev pub answer_of : Result (Option Item) WireFault → Answer
answer_of (Ok (Some item)) = gave (bytes_of item)
answer_of (Ok None) = more
answer_of (Err fault) = refused

-- The frame at the front of what is held is given, and its bytes are let go; or there is none yet, or a length that no
-- item has, and all is held still.
abbrev pub Gives : ℕ → Bytes → Answer → Bytes → Type 0
Gives longest held (gave frame) left = (length frame ≤ longest) × (held ≡ on_wire frame ++ left)
Gives longest held more left = IsUnfinished longest held × (left ≡ held)
Gives longest held refused left = IsTooLong longest held × (left ≡ held)

-- a frame that is given has bytes, where a ping has none
abbrev pub HasBytes : Result (Option Item) WireFault → Type 0
HasBytes (Ok (Some (Frame bytes))) = 1 ≤ length bytes.now
HasBytes (Ok (Some Ping)) = ⊤
HasBytes (Ok None) = ⊤
HasBytes (Err fault) = ⊤

-- ---- many calls

-- a call of a feed, and what it said
pub data Call : Type 0 where
  pushed : Bytes → Call
  asked : Answer → Call

-- these calls, one after the other, lead from what is held to what is left
abbrev pub Lead : ℕ → Bytes → List Call → Bytes → Type 0
Lead longest held [] left = left ≡ held
Lead longest held (pushed bytes ∷ calls) left = Lead longest (held ++ bytes) calls left
Lead longest held (asked answer ∷ calls) left =
    (between : Bytes) × Gives longest held answer between × Lead longest between calls left

-- all the bytes that were pushed
abbrev pub all_pushed : List Call → Bytes
all_pushed [] = []
all_pushed (pushed bytes ∷ calls) = bytes ++ all_pushed calls
all_pushed (asked answer ∷ calls) = all_pushed calls

-- all the frames that were given, pings among them
abbrev pub all_given : List Call → List Bytes
all_given [] = []
all_given (pushed bytes ∷ calls) = all_given calls
all_given (asked (gave frame) ∷ calls) = frame ∷ all_given calls
all_given (asked more ∷ calls) = all_given calls
all_given (asked refused ∷ calls) = all_given calls

-- no call was refused
abbrev pub IsNeverRefused : List Call → Type 0
IsNeverRefused [] = ⊤
IsNeverRefused (pushed bytes ∷ calls) = IsNeverRefused calls
IsNeverRefused (asked (gave frame) ∷ calls) = IsNeverRefused calls
IsNeverRefused (asked more ∷ calls) = IsNeverRefused calls
IsNeverRefused (asked refused ∷ calls) = ⊥

-- Whatever calls were made of a new feed, in whatever pieces the bytes came: these are the frames that were given, one
-- behind the other, and then what is held.
abbrev pub GivesWhatWasPushed : Type 0
GivesWhatWasPushed = (longest : ℕ) (calls : List Call) (held : Bytes) → Lead longest [] calls held
    → all_pushed calls ≡ stream (all_given calls) ++ held

-- Where the bytes are the beginning of frames that were put, none of them too long: none is refused, those given are
-- the first of them, and what is held is the beginning of the others. Once nothing is coming and nothing whole is
-- held, all were given.
abbrev pub GivesWhatWasPut : Type 0
GivesWhatWasPut = (longest : ℕ) (frames : List Bytes) (calls : List Call) (held coming : Bytes) → longest < 2 ^ 32
    → AllByRecursion (λ frame. length frame ≤ longest) frames
    → Lead longest [] calls held → all_pushed calls ++ coming ≡ stream frames
    → IsNeverRefused calls × (rest : List Bytes) × (frames ≡ all_given calls ++ rest)
    × (held ++ coming ≡ stream rest) × (coming ≡ [] → IsUnfinished longest held → rest ≡ [])

-- After a refusal nothing more is given.
abbrev pub GivesNothingMore : Type 0
GivesNothingMore = (longest : ℕ) (calls : List Call) (held left : Bytes) → longest < 2 ^ 32
    → IsTooLong longest held → Lead longest held calls left → all_given calls ≡ []

-- Once nothing whole is held, there is room for a piece.
abbrev pub HasRoomForAPiece : Type 0
HasRoomForAPiece = (longest piece : ℕ) (held bytes : Bytes) → IsUnfinished longest held → length bytes ≤ piece
    → length held + length bytes ≤ most_held longest piece
