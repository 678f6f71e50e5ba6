-- The newest announcement of each replica.
use Rattle.std.specs.Prelude.{ℕ, Bool, true, false, List, Option, Some, option_map, slice_get, slice_set, nat_lt}
use Rattle.std.specs.Prelude.{if◌then◌else◌}
use Rattle.std.specs.Option.{option_map_or}
use Rattle.definitions.specs.Bytes.{Bytes}
use Rattle.frame_record.specs.declared.announcements.Announced.{Announced}

-- the frame, if there is one
abbrev pub frame_of : Option Announced → Option Bytes
frame_of newest = option_map (λ a. a.frame) newest

-- a view is greater than what a replica announced so far, if it is one of them
abbrev pub is_newer : (sender view : ℕ) → List (Option Announced) → Bool
is_newer sender view all =
    option_map_or (λ newest. option_map_or (λ a. nat_lt a.view view) newest true) (slice_get all sender) false

-- one announcement more
abbrev pub with_announced : (sender : ℕ) → Announced → List (Option Announced) → List (Option Announced)
with_announced sender a all = if is_newer sender a.view all then slice_set all sender (Some a) else all
