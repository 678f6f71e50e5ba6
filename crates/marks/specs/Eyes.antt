-- The eyes of the marks: what each knows, and of which words.
use Rattle.std.specs.Prelude.{◌≡◌, ℕ, ◌+◌, min, List, map, replicate}
use Rattle.std.specs.List.{range_with_len}
use Rattle.atomic_table.specs.Seated.{TableId}
use Rattle.definitions.specs.Marks.{Sight, sees, puts}

-- an eye: of which marks, and what it knows of them
pub record EyeState : Type 0 where
  pub marks : TableId
  pub sight : Sight

-- it owns just this replica's word
abbrev pub IsOwnerOf : ℕ → Sight → Type 0
IsOwnerOf i v = (v.first ≡ i) × (v.end ≡ i + 1)

-- one that has seen as much, and owns none
abbrev pub onlooker : Sight → Sight
onlooker v = record v { first = 0; end = 0; put = 0 }

-- an eye after it has seen a number, and after it has put one
abbrev pub seeing : EyeState → ℕ → ℕ → EyeState
seeing e i n = record e { sight = sees e.sight i n }

abbrev pub putting : EyeState → ℕ → ℕ → EyeState
putting e i n = record e { sight = puts e.sight i n }

abbrev pub onlooker_of : EyeState → EyeState
onlooker_of e = record e { sight = onlooker e.sight }

-- the eye of a number, which owns that word; where there is no such word, it owns none. All words are 0
abbrev pub first_eye : TableId → ℕ → EyeState
first_eye z i = record {
  marks = z;
  sight = record { first = i; end = min (i + 1) z.words; put = 0; seen = replicate z.words 0 };
}

-- an eye for each word, and one that owns none
abbrev pub first_eyes : TableId → List EyeState
first_eyes z = map (first_eye z) (range_with_len 0 (z.words + 1))

-- ---- how the first eyes are made

-- the first seat owns every word, and all are 0
abbrev pub opener : ℕ → Sight
opener count = record { first = 0; end = count; put = 0; seen = replicate count 0 }

-- the owner of several words without the first of them, and the owner of that one
abbrev pub without_first : Sight → Sight
without_first v = record v { first = v.first + 1 }

abbrev pub only_first : Sight → Sight
only_first v = record v { end = v.first + 1 }
