-- The fields of a line, read one after the other: what the steps of the reader give.
use Rattle.std.specs.Prelude.{ℕ, zero, suc, ◌^◌, Bool, true, false, ◌&&◌, List, [], ◌∷◌, nat_lt}
use Rattle.std.specs.Prelude.{nat_le, ◌==◌, codes, bytes_eq, Option, Some, None, if◌then◌else◌}
use Rattle.std.specs.Prelude.{option_and_then}
use Rattle.std.specs.List.{slice_split}
use Rattle.std.specs.Borrow.{Bor}
use Rattle.std.specs.Str.Parse.{digits_value}
use Rattle.definitions.specs.Bytes.{Bytes}
use Rattle.definitions.specs.Requests.{space}
use Rattle.definitions.specs.Canonical.{is_key}
use Rattle.definitions.specs.Cache.{number_in}

-- the fields that a text has between its spaces
abbrev pub parts : Bytes → List Bytes
parts l = slice_split (λ b. b == space) l

-- the fields of what is left of a line, if something is
abbrev pub parts_after : Option (Bor Bytes) → List Bytes
parts_after None = []
parts_after (Some rest) = parts rest.now

-- at least one key, and at most so many
abbrev pub keys_pass : ℕ → List Bytes → Bool
keys_pass zero keys = false
keys_pass (suc most) [] = false
keys_pass (suc most) (key ∷ []) = is_key key
keys_pass (suc most) (key ∷ next ∷ keys) = is_key key && keys_pass most (next ∷ keys)

-- the test of a digit
abbrev pub is_digit : ℕ → Bool
is_digit b = nat_le 48 b && nat_le b 57

-- the number that digits write, where it is below 2^64
abbrev pub value_in : Bytes → Option ℕ
value_in text = if nat_lt (digits_value 10 text) (2 ^ 64) then Some (digits_value 10 text) else None

-- one step after another, each of which may fail
infixl 10 ◌>>=◌
abbrev pub ◌>>=◌ : {A B : Type 0} → Option A → (A → Option B) → Option B
o >>= f = option_and_then f o

-- a key, and the fields behind it
abbrev pub key_first : List Bytes → Option (Bytes × List Bytes)
key_first [] = None
key_first (key ∷ more) = if is_key key then Some (key, more) else None

-- a number, and the fields behind it
abbrev pub number_first : List Bytes → Option (ℕ × List Bytes)
number_first [] = None
number_first (field ∷ more) = number_in field >>= λ n. Some (n, more)

-- flags, and the fields behind them
abbrev pub flags_first : List Bytes → Option (ℕ × List Bytes)
flags_first fields = number_first fields >>= λ n. if nat_lt n.0 (2 ^ 32) then Some n else None

-- the fields behind a 0
abbrev pub expiry_first : List Bytes → Option (List Bytes)
expiry_first [] = None
expiry_first (field ∷ more) = if bytes_eq field (codes "0") then Some more else None

-- nothing, or the word noreply
abbrev pub noreply_in : List Bytes → Option Bool
noreply_in [] = Some false
noreply_in (word ∷ []) = if bytes_eq word (codes "noreply") then Some true else None
noreply_in (word ∷ next ∷ more) = None
