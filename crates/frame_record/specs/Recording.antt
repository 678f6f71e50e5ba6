-- What is recorded.
use Rattle.std.specs.Prelude.{ℕ, ◌≡◌, ◌-◌, ◌^◌, ◌<◌, ◌≤◌, max, Bool, false, List, [], ◌∷◌, ◌++◌, length, filter, map}
use Rattle.std.specs.Prelude.{Option, Some, None, option_map, slice_get, nat_le, nat_lt, if◌then◌else◌}
use Rattle.std.specs.Option.{option_map_or}
use Rattle.std.specs.List.{list_any}
use Rattle.std.specs.List.Sorted.{IsNonDecreasingBy}
use Rattle.definitions.specs.Bytes.{Bytes}
use Rattle.frame_record.specs.declared.recorded.Recorded.{Recorded}
use Rattle.frame_record.specs.declared.refusal.Refusal.{Refusal}
use Rattle.frame_record.specs.declared.refusal.Refusal.TheVariants.{TooLarge, TooLow, Known}
use Rattle.frame_record.specs.Costs.{cost, cost_of, fitting, is_of}

-- the frames, and how much they may cost
pub record Recording : Type 0 where
  pub frames : List Recorded
  pub most : ℕ

-- nothing is recorded yet
abbrev pub empty : (most : ℕ) → Recording
empty most = record { frames = []; most = most }

-- the frames are in order of height
abbrev pub AreInOrder : List Recorded → Type 0
AreInOrder frames = IsNonDecreasingBy (λ r. r.height) frames

-- those of heights up to one, above one, and from one on
abbrev pub up_to : (height : ℕ) → List Recorded → List Recorded
up_to height frames = filter (λ r. nat_le r.height height) frames

abbrev pub above : (height : ℕ) → List Recorded → List Recorded
above height frames = filter (λ r. nat_lt height r.height) frames

abbrev pub from_height : (height : ℕ) → List Recorded → List Recorded
from_height height frames = filter (λ r. nat_le height r.height) frames

-- the frames with one more: behind those of its height, before those above
abbrev pub inserted : Recorded → List Recorded → List Recorded
inserted r frames = up_to r.height frames ++ r ∷ above r.height frames

-- the lowest height that is recorded
abbrev pub lowest : List Recorded → Option ℕ
lowest frames = option_map (λ r. r.height) (slice_get frames 0)

-- a height below the lowest that is recorded
abbrev pub is_low : (height : ℕ) → List Recorded → Bool
is_low height frames = option_map_or (λ low. nat_lt height low) (lowest frames) false

-- a frame that brought the same block is recorded
abbrev pub is_known : Recorded → List Recorded → Bool
is_known r frames = list_any (is_of r.height r.block) frames

-- why a frame isn't recorded, if for another reason than memory
abbrev pub why_not : Recording → Recorded → Option Refusal
why_not old r =
    if nat_lt old.most (cost_of r) then Some TooLarge
    else if is_low r.height old.frames then Some TooLow
    else if is_known r old.frames then Some Known
    else None

-- one frame more is recorded, and the oldest make way for what it costs
abbrev pub with_frame : Recorded → Recording → Recording
with_frame r old = record old { frames = fitting old.most (inserted r old.frames) }

-- ---- batches

-- the first frames, as long as the next one has at most so many bytes as are left
abbrev pub within : (left : ℕ) → List Bytes → List Bytes
within left [] = []
within left (f ∷ fs) = if nat_le (length f) left then f ∷ within (left - length f) fs else []

-- how many bytes a batch of these frames may have, which is to have so many: the first one goes in any case
abbrev pub room_for : (most : ℕ) → List Bytes → ℕ
room_for most [] = most
room_for most (f ∷ fs) = max most (length f)

-- the first of these frames, as many as have so many bytes, and one in any case
abbrev pub batch : (most : ℕ) → List Bytes → List Bytes
batch most frames = within (room_for most frames) frames

-- the frames themselves
abbrev pub frames_of : List Recorded → List Bytes
frames_of rs = map (λ r. r.frame) rs

-- ---- what always holds

-- The cost that is noted is theirs, and at most as much as it may be. They are in order.
pub record IsKept (frames : List Recorded) (noted most : ℕ) : Type 0 where
  pub counted : noted ≡ cost frames
  pub bounded : noted ≤ most
  pub small : most < 2 ^ 63
  pub ordered : AreInOrder frames
