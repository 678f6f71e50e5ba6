-- One recorded frame and several: what they are of, what they cost, and which of them are kept.
use Rattle.std.specs.Prelude.{ℕ, ◌+◌, ◌==◌, ◌&&◌, Bool, List, [], ◌∷◌, length, sum_by, nat_le, bytes_eq, if◌then◌else◌}
use Rattle.definitions.specs.Bytes.{Bytes}
use Rattle.tuning.specs.declared.links.TheConstants.{PARCEL_SIZE}
use Rattle.frame_record.specs.declared.recorded.Recorded.{Recorded}

-- it is of this height, and brought this block
abbrev pub is_of : (height : ℕ) → (block : Bytes) → Recorded → Bool
is_of height block r = (r.height == height) && bytes_eq r.block block

-- what a frame costs: its bytes and its place
abbrev pub cost_of : Recorded → ℕ
cost_of r = length r.frame + PARCEL_SIZE

-- what frames cost
abbrev pub cost : List Recorded → ℕ
cost frames = sum_by cost_of frames

-- what is left where the first ones are dropped until the others cost at most so much
abbrev pub fitting : (most : ℕ) → List Recorded → List Recorded
fitting most [] = []
fitting most (r ∷ rs) = if nat_le (cost (r ∷ rs)) most then r ∷ rs else fitting most rs
