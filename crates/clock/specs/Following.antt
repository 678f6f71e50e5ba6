-- When others follow a replica that is in a later view.
use Rattle.std.specs.Prelude.{ℕ, Bool, ◌+◌, ◌-◌, ◌*◌, ◌^◌, ◌&&◌, not, min, nat_le, if◌then◌else◌}
use Rattle.tuning.specs.declared.clocks.TheConstants.{FOLLOW_MILLIS, MOST_FOLLOW_MILLIS}
use Rattle.clock.specs.declared.forerunner.Forerunner.{Forerunner}

-- it wasn't ahead yet
abbrev pub no_forerunner : Forerunner
no_forerunner = record { ahead = 0; wait = FOLLOW_MILLIS; level = 0 }

-- they do once it has been ahead for as long as they wait
abbrev pub follows : Forerunner → (is_ahead : Bool) → (passed : ℕ) → Bool
follows f is_ahead passed = is_ahead && nat_le f.wait (min (f.ahead + passed) (2 ^ 64 - 1))

-- They wait twice as long the next time, up to the most; at first so long again once it hasn't been ahead for as long as they ever
-- wait.
abbrev pub next_wait : Forerunner → (is_ahead : Bool) → (passed : ℕ) → ℕ
next_wait f is_ahead passed =
    if follows f is_ahead passed then min (min (f.wait * 2) (2 ^ 64 - 1)) MOST_FOLLOW_MILLIS
    else if not is_ahead && nat_le MOST_FOLLOW_MILLIS (min (f.level + passed) (2 ^ 64 - 1)) then FOLLOW_MILLIS
    else f.wait

-- what was seen of it so far, with this
abbrev pub watched : Forerunner → (is_ahead : Bool) → (passed : ℕ) → Forerunner
watched f is_ahead passed = record {
  ahead = if is_ahead && not (follows f is_ahead passed) then min (f.ahead + passed) (2 ^ 64 - 1) else 0;
  wait = next_wait f is_ahead passed;
  level = if is_ahead then 0 else min (f.level + passed) (2 ^ 64 - 1);
}
