-- What the turns are for.
use Rattle.std.specs.Prelude.{◌≡◌, ◌⊎◌, ℕ, ◌<◌, true, length}
use Rattle.fair_queue.specs.Queues.{Rows, Takes, ready_at, row_at}

-- Where something may be taken from a row so many places behind the turn, a take is of that row, or the row is
-- nearer to the turn after it, and as ready as before.
abbrev pub ComeNearer : (T : Type 0) → Type 0
ComeNearer T = (old new : Rows T) (value : T) (taken : Takes old value new) (place : ℕ)
    → old.turn < length old.rows → place < length old.rows
    → ready_at old.rows (row_at (length old.rows) old.turn place) ≡ true
    → (taken.number ≡ row_at (length old.rows) old.turn place)
    ⊎ ((nearer : ℕ) × (nearer < place)
    × (row_at (length new.rows) new.turn nearer ≡ row_at (length old.rows) old.turn place)
    × (ready_at new.rows (row_at (length old.rows) old.turn place) ≡ true))
