-- How much frames take of their sender's share.
use Rattle.std.specs.Prelude.{ℕ, ◌+◌, ◌-◌, ◌^◌, List, fold, length, min}
use Rattle.definitions.specs.Bytes.{Bytes}
use Rattle.tuning.specs.declared.links.TheConstants.{PARCEL_SIZE}

-- one more, where so much is taken
abbrev pub with_one : ℕ → Bytes → ℕ
with_one size frame = min (size + (length frame + PARCEL_SIZE)) (2 ^ 64 - 1)

-- all of these
abbrev pub with_all : ℕ → List Bytes → ℕ
with_all size frames = fold with_one size frames
