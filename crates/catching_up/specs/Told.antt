-- What others told.
use Rattle.std.specs.Prelude.{ℕ, ◌≡◌, ◌+◌, ◌-◌, ◌^◌, ◌<◌, ◌≤◌, Bool, true, List, count_by, min, nat_le, nat_lt}
use Rattle.std.specs.Prelude.{slice_index}

-- more than so many told a height, or a greater one
abbrev pub is_backed : (faults : ℕ) → (told : List ℕ) → (height : ℕ) → Bool
is_backed faults told height = nat_lt faults (count_by (λ other. nat_le height other) told)

-- Of so many heights that were told it is the greatest that is backed, or 0.
pub record IsForemost (faults : ℕ) (told : List ℕ) (count best : ℕ) : Type 0 where
  pub backed : 0 < best → is_backed faults told best ≡ true
  pub greatest : (k : ℕ) → k < count → is_backed faults told (slice_index told k) ≡ true → slice_index told k ≤ best

-- a number that a count of it more doesn't wrap
abbrev pub more : ℕ → ℕ
more n = min (n + 1) (2 ^ 64 - 1)

-- the lowest height that one recorded lies above the one that is needed behind this
abbrev pub lies_above : (height lowest : ℕ) → Bool
lies_above height lowest = nat_lt (more height) lowest
