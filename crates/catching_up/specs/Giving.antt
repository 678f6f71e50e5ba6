-- How much is given to one that asks.
use Rattle.std.specs.Prelude.{ℕ, ◌+◌, ◌-◌, ◌^◌, ◌&&◌, max, nat_le, nat_lt, if◌then◌else◌, Option, None, Some}

-- Until when what was given is counted, behind one more answer. Where it is counted until longer than so much ahead, none is
-- given.
abbrev pub counted_until : (ahead until now cost : ℕ) → Option ℕ
counted_until ahead until now cost =
    if nat_le (until - now) ahead && nat_lt (max until now + cost) (2 ^ 64) then Some (max until now + cost) else None
