-- Whose lock is higher.
use Rattle.std.specs.Prelude.{ℕ, length, nat_lt, if◌then◌else◌}
use Rattle.definitions.specs.Worlds.{World}
use Rattle.recovery.specs.Correct.{lock_of}

-- the first of two, unless the other one's lock is higher
abbrev pub higher_locked : World → ℕ → ℕ → ℕ
higher_locked w first other = if nat_lt (length (lock_of w first)) (length (lock_of w other)) then other else first
