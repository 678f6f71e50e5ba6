-- Some replicas of a deployment: true at each one's number.
use Rattle.std.specs.Prelude.{ℕ, ◌||◌, Bool, true, false, List, count_by, get_or, map, nat_lt, replicate, slice_set, if◌then◌else◌}
use Rattle.std.specs.List.{range_with_len}
use Rattle.ids.specs.declared.limits.TheConstants.{MOST_REPLICAS}

abbrev pub nobody : List Bool
nobody = replicate MOST_REPLICAS false

abbrev pub is_in : List Bool → (replica : ℕ) → Bool
is_in set replica = get_or set replica false

abbrev pub with_replica : List Bool → (replica : ℕ) → List Bool
with_replica set replica = if nat_lt replica MOST_REPLICAS then slice_set set replica true else set

-- those of which this is said
abbrev pub those : (ℕ → Bool) → List Bool
those said = map said (range_with_len 0 MOST_REPLICAS)

abbrev pub both : (some others : List Bool) → List Bool
both some others = those (λ r. is_in some r || is_in others r)

-- how many they are
abbrev pub size : List Bool → ℕ
size set = count_by (λ has. has) set
