-- Readers and writers that fail, and their counts.
use Rattle.std.specs.Prelude.{◌≡◌, ℕ, ◌+◌, ◌-◌, ◌^◌, ◌≤◌, ◌++◌, min, length, Option}
use Rattle.std.specs.Io.KnownBytes.{Appends}
use Rattle.definitions.specs.Bytes.{Bytes}

-- a reader or a writer, and how often it failed
pub record Device (D : Type 0) : Type 0 where
  pub device : D
  pub failures : ℕ

-- one failure was counted; at 2^64 - 1 the count stays
abbrev pub CountsOne : ℕ → ℕ → Type 0
CountsOne old new = new ≡ min (old + 1) (2 ^ 64 - 1)

-- a beginning of the bytes was written, and not all
pub record WritesPart (old new : Option Bytes) (bytes : Bytes) : Type 0 where
  pub written : Bytes
  pub unwritten : Bytes
  pub all : bytes ≡ written ++ unwritten
  pub some : 1 ≤ length unwritten
  pub wrote : Appends old new written
