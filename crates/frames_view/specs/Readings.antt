-- Reading from left to right, as functions of bytes: what stands at their front, and what is left behind it.
use Rattle.std.specs.Prelude.{◌≡◌, ℕ, zero, suc, Bool, List, [], ◌∷◌, length, take, drop, Option, Some}
use Rattle.std.specs.Prelude.{None, nat_lt, nat_le, if◌then◌else◌, option_map}
use Rattle.std.specs.Option.{option_and_then}
use Rattle.std.specs.List.{flat_map}
use Rattle.std.specs.Int.{Width, byte_len, from_be_bytes}
use Rattle.definitions.specs.Bytes.{Bytes}

-- a way to read a value: it and the bytes behind it, where the bytes begin with one
abbrev pub Reader : Type 0 → Type 0
Reader X = Bytes → Option (X × Bytes)

-- a number of this width
abbrev pub number : Width → Reader ℕ
number w bytes = if nat_lt (length bytes) (byte_len w) then None else Some
    (from_be_bytes w (take (byte_len w) bytes), drop (byte_len w) bytes)

-- so many bytes
abbrev pub chunk : ℕ → Reader Bytes
chunk n bytes = if nat_lt (length bytes) n then None else Some (take n bytes, drop n bytes)

-- what is read so, where it passes a test
abbrev pub tested : {X : Type 0} → (X → Bool) → Reader X → Reader X
tested test read bytes = option_and_then (λ x. if test x.0 then Some x else None) (read bytes)

-- one and then another
abbrev pub both : {X Y : Type 0} → Reader X → Reader Y → Reader (X × Y)
both first second bytes =
    option_and_then (λ x. option_map (λ y. ((x.0, y.0), y.1)) (second x.1)) (first bytes)

-- what is made of what is read so
abbrev pub made : {X Y : Type 0} → (X → Y) → Reader X → Reader Y
made make read bytes = option_map (λ x. (make x.0, x.1)) (read bytes)

-- a length of this width, at most this, and so many bytes
abbrev pub sized : Width → ℕ → Reader Bytes
sized w most bytes = option_and_then (λ n. if nat_le n.0 most then chunk n.0 n.1 else None) (number w bytes)

-- ---- lists, one element after the other

-- what so many that stand in the bytes are, as far as they stand there
abbrev pub elements : {X : Type 0} → Reader X → ℕ → Bytes → List X
elements read zero bytes = []
elements read (suc count) bytes = elim (read bytes) [ Some x ↦ x.0 ∷ elements read count x.1 | None ↦ [] ]

-- what is left behind so many
abbrev pub behind : {X : Type 0} → Reader X → ℕ → Bytes → Option Bytes
behind read zero bytes = Some bytes
behind read (suc count) bytes = option_and_then (λ x. behind read count x.1) (read bytes)

-- the same where each has a higher rank than the one before it, and the first has at least this one
abbrev pub behind_rising : {X : Type 0} → (X → ℕ) → Reader X → (least : ℕ) → ℕ → Bytes → Option Bytes
behind_rising rank read least zero bytes = Some bytes
behind_rising rank read least (suc count) bytes =
    option_and_then
    (λ x. if nat_le least (rank x.0) then behind_rising rank read (suc (rank x.0)) count x.1 else None)
    (read bytes)

-- so many
abbrev pub many : {X : Type 0} → Reader X → ℕ → Reader (List X)
many read count bytes = option_map (λ rest. (elements read count bytes, rest)) (behind read count bytes)

-- so many of rising ranks
abbrev pub many_rising : {X : Type 0} → (X → ℕ) → Reader X → ℕ → Reader (List X)
many_rising rank read count bytes =
    option_map (λ rest. (elements read count bytes, rest)) (behind_rising rank read 0 count bytes)

-- ---- what was taken of bytes

-- the part is the spelling of all of so many, and reads as they do
pub record IsRead {X : Type 0} (spell : X → Bytes) (read : Reader X) (count : ℕ) (bytes : Bytes)
    (part : Bytes) : Type 0 where
  pub same : elements read count part ≡ elements read count bytes
  pub counted : length (elements read count part) ≡ count
  pub trimmed : part ≡ flat_map spell (elements read count part)
