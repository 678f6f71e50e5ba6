-- Fields at the front of a text, and lines.
use Rattle.std.specs.Prelude.{◌≡◌, ◌≢◌, ℕ, ◌<◌, ◌&&◌, Bool, List, [], ◌∷◌, ◌++◌, length, decimal, nat_lt, not}
use Rattle.std.specs.Prelude.{Option, Some, None, true}
use Rattle.std.specs.List.{AllByRecursion, list_all}
use Rattle.definitions.specs.Bytes.{Bytes}

-- what stands behind this front of a text, if the text has it
abbrev pub IsBehind : Bytes → Bytes → Option Bytes → Type 0
IsBehind front text None = (rest : Bytes) → text ≢ front ++ rest
IsBehind front text (Some rest) = text ≡ front ++ rest

-- no LF stands in it
abbrev pub IsLine : Bytes → Type 0
IsLine line = AllByRecursion (λ byte. byte ≢ 10) line

-- a text's first line, and what stands behind the LF that ends it, if there is such a line
abbrev pub IsCut : Bytes → Option (Bytes × Bytes) → Type 0
IsCut text None = (line rest : Bytes) → IsLine line → text ≢ line ++ 10 ∷ rest
IsCut text (Some (line, rest)) = IsLine line × (text ≡ line ++ 10 ∷ rest)

-- what a text's first line spells, and what stands behind that line, if it spells something
abbrev pub IsAt : {X : Type 0} → (X → Bytes) → (X → Type 0) → Bytes → Option (X × Bytes) → Type 0
IsAt {X} spelling Fits text None = (x : X) (rest : Bytes) → Fits x → text ≢ spelling x ++ 10 ∷ rest
IsAt {X} spelling Fits text (Some (x, rest)) = Fits x × (text ≡ spelling x ++ 10 ∷ rest)

-- numbers are below this limit
abbrev pub IsBelow : ℕ → ℕ → Type 0
IsBelow limit n = n < limit

-- a number and a space
abbrev pub numbered : ℕ → Bytes
numbered n = decimal n ++ 32 ∷ []

-- an address: visible ASCII characters, at least one
abbrev pub is_visible : ℕ → Bool
is_visible byte = nat_lt 32 byte && nat_lt byte 127

abbrev pub is_address : Bytes → Bool
is_address bytes = nat_lt 0 (length bytes) && list_all is_visible bytes

abbrev pub IsAddress : Bytes → Type 0
IsAddress bytes = is_address bytes ≡ true
