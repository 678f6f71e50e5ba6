-- The text that keeps a mark.
use Rattle.std.specs.Prelude.{◌≡◌, ◌≢◌, ℕ, ◌^◌, ◌<◌, ◌++◌, [], ◌∷◌, decimal, Option, Some, None}
use Rattle.definitions.specs.Bytes.{Bytes}

-- the mark and LF
abbrev pub mark_behind : ℕ → Bytes
mark_behind mark = decimal mark ++ 10 ∷ []

-- the party's number, a space, the mark and LF
abbrev pub mark_text : ℕ → ℕ → Bytes
mark_text party mark = decimal party ++ 32 ∷ mark_behind mark

-- what stands behind the party's number and the space, if the text begins so
abbrev pub IsFrontOf : ℕ → Bytes → Option Bytes → Type 0
IsFrontOf party text None = (rest : Bytes) → text ≢ decimal party ++ 32 ∷ rest
IsFrontOf party text (Some rest) = text ≡ decimal party ++ 32 ∷ rest

-- the number that a text spells so, if it spells one
abbrev pub IsReadAs : (ℕ → Bytes) → Bytes → Option ℕ → Type 0
IsReadAs spelling text None = (n : ℕ) → n < 2 ^ 64 → text ≢ spelling n
IsReadAs spelling text (Some n) = (n < 2 ^ 64) × (text ≡ spelling n)
