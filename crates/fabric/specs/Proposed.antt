-- What a leader knows of its own blocks, and which proposals lack grounds.
use Rattle.std.specs.Prelude.{ℕ, ◌≡◌, ◌++◌, Bool, false, List, [], ◌∷◌, Option, Some, None, drop, length, nat_lt, ⊤}
use Rattle.std.specs.Prelude.{bytes_eq, if◌then◌else◌}
use Rattle.std.specs.Option.{option_map_or}
use Rattle.std.specs.List.{list_any}
use Rattle.definitions.specs.Bytes.{Bytes}
use Rattle.tuning.specs.declared.waiting.TheConstants.{MOST_WAITING_FRAMES}
use Rattle.fabric.specs.declared.unfounded.Unfounded.{Unfounded}

-- the block of this digest is the one that is known
abbrev pub is_known_as : Bytes → Option Bytes → Bool
is_known_as block known = option_map_or (λ d. bytes_eq d block) known false

-- it is among these
abbrev pub is_among : Bytes → List Bytes → Bool
is_among block blocks = list_any (λ d. bytes_eq d block) blocks

-- the blocks below a newer one: with the one that was the newest, and of too many without the oldest
abbrev pub superseded : Option Bytes → List Bytes → List Bytes
superseded None below = below
superseded (Some newest) below =
    (if nat_lt (length below) MOST_WAITING_FRAMES then below else drop 1 below) ++ newest ∷ []

-- ---- proposals without grounds

-- what is left of a list where some from the front went
abbrev pub IsRest : {X : Type 0} → List X → List X → Type 0
IsRest {X} xs rest = (lost : List X) × (xs ≡ lost ++ rest)

-- there is none, or there was no other news since the first was tried
abbrev pub NoneSince : ℕ → List Unfounded → Type 0
NoneSince news [] = ⊤
NoneSince news (first ∷ more) = first.tried_at ≡ news
