-- How much a parcel takes of its sender's share, and what a frame is by its kind.
use Rattle.std.specs.Prelude.{ℕ, ◌+◌, ◌-◌, ◌==◌, Bool, false, length, slice_get}
use Rattle.std.specs.Option.{option_map_or}
use Rattle.definitions.specs.Bytes.{Bytes}
use Rattle.definitions.specs.Frames.{head_len}
use Rattle.ids.specs.Numbers.{kind_number}
use Rattle.ids.specs.declared.kind.Kind.TheVariants as kind
use Rattle.tuning.specs.declared.links.TheConstants.{PARCEL_SIZE}
use Rattle.fabric.specs.declared.parcel.Parcel.{Parcel}
use Rattle.fabric.specs.declared.parcel.Parcel.TheVariants.{Frame, Passed, Answered}
use Rattle.fabric.specs.Sizes.{with_all}

-- its bytes, where it has some, and its place
abbrev pub size_of : Parcel → ℕ
size_of (Frame number from bytes) = length bytes + PARCEL_SIZE
size_of (Passed from bytes) = length bytes + PARCEL_SIZE
size_of (Answered from answer) = with_all (with_all PARCEL_SIZE answer.frames.items) answer.announced.items
size_of _ = PARCEL_SIZE

-- it is a client's request, by its kind, which stands last in its head
abbrev pub is_request : Bytes → Bool
is_request frame = option_map_or (λ k. k == kind_number kind.Request) (slice_get frame (head_len frame - 1)) false
