-- What holds of an outbox over a whole history of calls.
use Rattle.std.specs.Prelude.{◌≡◌, ℕ, suc, ◌+◌, ◌^◌, ◌<◌, ◌≤◌, List, [], ◌∷◌, ◌++◌, length, true}
use Rattle.definitions.specs.Bytes.{Bytes}
use Rattle.outbox.specs.Waiting.{Waiting, cost_of, cost, counted, empty, closed}

-- a call of an outbox, and what came of it
pub data Call : Type 0 where
  kept : (frame : Bytes) → Call
  lost : Call
  took : (frames : List Bytes) → Call
  closes : (frames : List Bytes) → Call
  reopens : Call

-- these calls, one after the other, lead from one state to another
abbrev pub Lead : Waiting → List Call → Waiting → Type 0
Lead w [] new = new ≡ w
Lead w (kept frame ∷ calls) new =
    (cost w.frames + cost_of frame ≤ w.most) × Lead (record w { frames = w.frames ++ frame ∷ [] }) calls new
Lead w (lost ∷ calls) new = Lead (record w { lost = counted w.lost 1 }) calls new
Lead w (took frames ∷ calls) new =
    (rest : List Bytes) × (w.frames ≡ frames ++ rest) × Lead (record w { frames = rest }) calls new
Lead w (closes frames ∷ calls) new = (w.frames ≡ frames) × Lead (closed w) calls new
Lead w (reopens ∷ calls) new = Lead (record w { is_open = true }) calls new

-- the frames that were kept, in order
abbrev pub all_kept : List Call → List Bytes
all_kept [] = []
all_kept (kept frame ∷ calls) = frame ∷ all_kept calls
all_kept (lost ∷ calls) = all_kept calls
all_kept (took frames ∷ calls) = all_kept calls
all_kept (closes frames ∷ calls) = all_kept calls
all_kept (reopens ∷ calls) = all_kept calls

-- those that were taken, in order
abbrev pub all_taken : List Call → List Bytes
all_taken [] = []
all_taken (kept frame ∷ calls) = all_taken calls
all_taken (lost ∷ calls) = all_taken calls
all_taken (took frames ∷ calls) = frames ++ all_taken calls
all_taken (closes frames ∷ calls) = all_taken calls
all_taken (reopens ∷ calls) = all_taken calls

-- those that were taken or let go at a closing, in order
abbrev pub all_left : List Call → List Bytes
all_left [] = []
all_left (kept frame ∷ calls) = all_left calls
all_left (lost ∷ calls) = all_left calls
all_left (took frames ∷ calls) = frames ++ all_left calls
all_left (closes frames ∷ calls) = frames ++ all_left calls
all_left (reopens ∷ calls) = all_left calls

-- how many were put
abbrev pub puts : List Call → ℕ
puts [] = 0
puts (kept frame ∷ calls) = suc (puts calls)
puts (lost ∷ calls) = suc (puts calls)
puts (took frames ∷ calls) = puts calls
puts (closes frames ∷ calls) = puts calls
puts (reopens ∷ calls) = puts calls

-- What was taken or let go, and then what waits, are the frames that were kept, in order, each once.
abbrev pub GivesWhatWasKept : Type 0
GivesWhatWasKept = (most : ℕ) (calls : List Call) (w : Waiting) → Lead (empty most) calls w
    → all_kept calls ≡ all_left calls ++ w.frames

-- Each frame that was put was taken, waits or is counted as lost.
abbrev pub CountsWhatIsLost : Type 0
CountsWhatIsLost = (most : ℕ) (calls : List Call) (w : Waiting) → Lead (empty most) calls w → puts calls < 2 ^ 64
    → puts calls ≡ length (all_taken calls) + length w.frames + w.lost

-- What waits never costs more than it may.
abbrev pub StaysWithinItsBound : Type 0
StaysWithinItsBound = (most : ℕ) (calls : List Call) (w : Waiting) → Lead (empty most) calls w
    → cost w.frames ≤ most
