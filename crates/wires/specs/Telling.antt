-- When it is told that peers ask at other sizes.
use Rattle.std.specs.Prelude.{ℕ, ◌+◌, ◌-◌, ◌^◌, ◌&&◌, min, nat_le, nat_lt, Option, Some, None, if◌then◌else◌}
use Rattle.tuning.specs.declared.warnings.TheConstants.{WARNING_PAUSE_SECONDS}
use Rattle.wires.specs.declared.other_sizes.OtherSizes.{OtherSizes}

-- how many asks were told of, and from which second on more may be
pub record Told : Type 0 where
  pub asks : ℕ
  pub again : ℕ

-- nothing was told
abbrev pub untold : Told
untold = record { asks = 0; again = 0 }

-- who is to be told of in this second: the last one that asked so, where there are asks that weren't told of, and the
-- pause is over
abbrev pub due : Told → OtherSizes → (second : ℕ) → Option ℕ
due told known second = if nat_lt told.asks known.asks && nat_le told.again second then known.last else None

-- so many asks were told of in this second
abbrev pub told_in : (asks second : ℕ) → Told
told_in asks second = record { asks = asks; again = min (second + WARNING_PAUSE_SECONDS) (2 ^ 64 - 1) }

abbrev looked_by : Option ℕ → Told → (asks second : ℕ) → Told
looked_by (Some peer) told asks second = told_in asks second
looked_by None told asks second = told

-- after a look in this second at what is known by then
abbrev pub looked : Told → OtherSizes → (second : ℕ) → Told
looked told known second = looked_by (due told known second) told known.asks second
