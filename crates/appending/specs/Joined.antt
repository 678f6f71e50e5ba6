-- Parts, and what they are together.
use Rattle.std.specs.Prelude.{◌≡◌, ℕ, ◌^◌, ◌≤◌, List, Result, MatchResult}
use Rattle.std.specs.List.{flat_map}
use Rattle.std.specs.Borrow.{Bor}
use Rattle.ids.specs.declared.fault.Fault.{Fault}
use Rattle.ids.specs.declared.fault.Fault.TheVariants.{Memory}
use Rattle.definitions.specs.Bytes.{Bytes}

-- the parts, one after the other
abbrev pub joined : List (Bor Bytes) → Bytes
joined parts = flat_map (λ part. part.now) parts

-- the number of bytes, where it fits
abbrev pub IsLength : Result ℕ Fault → ℕ → Type 0
IsLength r len = MatchResult r (λ n. n ≡ len) (λ e. (e ≡ Memory) × (2 ^ 64 ≤ len))
