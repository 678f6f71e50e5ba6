-- What waits for one peer.
use Rattle.std.specs.Prelude.{ℕ, ◌+◌, ◌-◌, ◌^◌, ◌<◌, ◌≤◌, min, Bool, true, false, List, [], length, take}
use Rattle.std.specs.Prelude.{sum_by}
use Rattle.tuning.specs.declared.links.TheConstants.{PARCEL_SIZE}
use Rattle.definitions.specs.Bytes.{Bytes}

-- what an outbox is: the frames that wait, oldest first; how much they may cost; how many frames were lost; whether new
-- ones are kept
pub record Waiting : Type 0 where
  pub frames : List Bytes
  pub most : ℕ
  pub lost : ℕ
  pub is_open : Bool

-- what a frame costs: its bytes and its place
abbrev pub cost_of : Bytes → ℕ
cost_of frame = length frame + PARCEL_SIZE

-- what frames cost
abbrev pub cost : List Bytes → ℕ
cost frames = sum_by cost_of frames

-- how many bytes frames have
abbrev pub size : List Bytes → ℕ
size frames = sum_by (λ frame. length frame) frames

-- a count after some more, which stays at its greatest number
abbrev pub counted : ℕ → ℕ → ℕ
counted count more = min (count + more) (2 ^ 64 - 1)

-- nothing waits yet
abbrev pub empty : ℕ → Waiting
empty most = record { frames = []; most = most; lost = 0; is_open = true }

-- an outbox that keeps nothing: what waited is lost, too
abbrev pub closed : Waiting → Waiting
closed w = record w { frames = []; lost = counted w.lost (length w.frames); is_open = false }

-- So many frames from the front are a batch: one at least where one waits, more only of so many bytes, and with the
-- next one they would have more.
pub record IsBatch (most : ℕ) (frames : List Bytes) (count : ℕ) : Type 0 where
  pub within : count ≤ length frames
  pub some : 0 < length frames → 0 < count
  pub fits : 1 < count → size (take count frames) ≤ most
  pub longest : count < length frames → most < size (take (count + 1) frames)
