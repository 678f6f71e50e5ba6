-- What holds of a record over a whole history of calls, and of a batch.
use Rattle.std.specs.Prelude.{◌≡◌, ℕ, ◌≤◌, ◌<◌, List, [], ◌∷◌, ◌++◌, false, true, length, sum_by, nat_lt}
use Rattle.definitions.specs.Bytes.{Bytes}
use Rattle.frame_record.specs.declared.recorded.Recorded.{Recorded}
use Rattle.frame_record.specs.Costs.{cost_of}
use Rattle.frame_record.specs.Recording.{Recording, batch, empty, inserted, is_known, is_low, room_for, with_frame}

-- a call that records a frame, and what came of it
pub data Call : Type 0 where
  put : (r : Recorded) → Call
  too_low : (r : Recorded) → Call
  known : (r : Recorded) → Call
  lost : Call

-- these calls, one after the other, lead from one record to another
abbrev pub Lead : Recording → List Call → Recording → Type 0
Lead old [] new = new ≡ old
Lead old (put r ∷ calls) new =
    (nat_lt old.most (cost_of r) ≡ false) × (is_low r.height old.frames ≡ false) × Lead (with_frame r old) calls new
Lead old (too_low r ∷ calls) new = (is_low r.height old.frames ≡ true) × Lead old calls new
Lead old (known r ∷ calls) new = (is_known r old.frames ≡ true) × Lead old calls new
Lead old (lost ∷ calls) new = Lead old calls new

-- all frames that were put, those too low as well, in order of height; one that brought a known block is passed over
abbrev pub all_put : List Recorded → List Call → List Recorded
all_put frames [] = frames
all_put frames (put r ∷ calls) = all_put (inserted r frames) calls
all_put frames (too_low r ∷ calls) = all_put (inserted r frames) calls
all_put frames (known r ∷ calls) = all_put frames calls
all_put frames (lost ∷ calls) = all_put frames calls

-- What is recorded is the end of all that was put, in order of height: what was dropped is all lower, or of the lowest
-- height and older.
abbrev pub KeepsTheNewest : Type 0
KeepsTheNewest = (most : ℕ) (calls : List Call) (new : Recording) → Lead (empty most) calls new
    → (dropped : List Recorded) × (all_put [] calls ≡ dropped ++ new.frames)

-- A batch is a beginning of the frames; one of them at least, where there is one; and of no more bytes than it may have,
-- or than the first one has.
abbrev pub IsABeginning : Type 0
IsABeginning = (most : ℕ) (frames : List Bytes) → (rest : List Bytes) × (batch most frames ++ rest ≡ frames)
    × (sum_by (λ f. length f) (batch most frames) ≤ room_for most frames)
    × (0 < length frames → 0 < length (batch most frames))
