-- What waits in the rows of a fair queue, and whose turn it is.
use Rattle.std.specs.Prelude.{◌≡◌, ℕ, ◌+◌, ◌-◌, ◌<◌, nat_lt, Bool, true, false, ◌&&◌, List, [], ◌∷◌, ◌++◌}
use Rattle.std.specs.Prelude.{if◌then◌else◌, sum_by, slice_get, set, length, Some}
use Rattle.std.specs.Option.{option_map_or}
use Rattle.fair_queue.specs.declared.allowance.Allowance.{Allowance}

-- What waits in a row, oldest first, each value with its size; and how many values, and of how much size, may be
-- taken until the next refill.
pub record Row (T : Type 0) : Type 0 where
  pub items : List (ℕ × T)
  pub count_left : ℕ
  pub size_left : ℕ

-- all rows, the one whose turn it is, and how much may be taken from each between two refills
pub record Rows (T : Type 0) : Type 0 where
  pub rows : List (Row T)
  pub turn : ℕ
  pub allowed : Allowance

-- how much size waits
abbrev pub size_of : {T : Type 0} → List (ℕ × T) → ℕ
size_of items = sum_by (λ item. item.0) items

-- whether something waits
abbrev pub is_some_waiting : {T : Type 0} → List (ℕ × T) → Bool
is_some_waiting [] = false
is_some_waiting (item ∷ items) = true

-- whether something may be taken: it waits, and the allowance isn't used up
abbrev pub is_ready : {T : Type 0} → Row T → Bool
is_ready row = is_some_waiting row.items && nat_lt 0 row.count_left && nat_lt 0 row.size_left

-- nothing waits, and the whole allowance is left
abbrev pub empty_row : {T : Type 0} → Allowance → Row T
empty_row allowed = record { items = []; count_left = allowed.count; size_left = allowed.size }

-- a row from which its oldest value was taken, of this size
abbrev pub after_one : {T : Type 0} → Row T → ℕ → List (ℕ × T) → Row T
after_one row size rest =
    record { items = rest; count_left = row.count_left - 1; size_left = row.size_left - size }

-- a row whose whole allowance is left
abbrev pub refilled : {T : Type 0} → Allowance → Row T → Row T
refilled allowed row = record row { count_left = allowed.count; size_left = allowed.size }

-- a row of which so much less may be taken until the next refill
abbrev pub charged : {T : Type 0} → (count size : ℕ) → Row T → Row T
charged count size row = record row { count_left = row.count_left - count; size_left = row.size_left - size }

-- the row so many places behind the turn
abbrev pub row_at : (rows turn place : ℕ) → ℕ
row_at rows turn place = if nat_lt (turn + place) rows then turn + place else turn + place - rows

-- the row behind one
abbrev pub row_behind : (rows number : ℕ) → ℕ
row_behind rows number = if nat_lt (number + 1) rows then number + 1 else 0

-- whether something may be taken from the row of this number
abbrev pub ready_at : {T : Type 0} → List (Row T) → ℕ → Bool
ready_at rows number = option_map_or is_ready (slice_get rows number) false

-- how much size waits in the row of this number
abbrev pub waiting_in : {T : Type 0} → List (Row T) → ℕ → ℕ
waiting_in rows number = option_map_or (λ row. size_of row.items) (slice_get rows number) 0

-- It is the first row, from the turn on, from which something may be taken: so many places behind the turn.
pub record IsNext {T : Type 0} (queue : Rows T) (number place : ℕ) : Type 0 where
  pub within : place < length queue.rows
  pub is : number ≡ row_at (length queue.rows) queue.turn place
  pub ready : ready_at queue.rows number ≡ true
  pub first : (before : ℕ) → before < place
      → ready_at queue.rows (row_at (length queue.rows) queue.turn before) ≡ false

-- A value was added at the end of the row of this number, and nothing else changed.
pub record Puts {T : Type 0} (old : Rows T) (number size : ℕ) (value : T) (new : Rows T) : Type 0 where
  pub row : Row T
  pub at : slice_get old.rows number ≡ Some row
  pub is : new ≡ record old {
    rows = set old.rows number (record row { items = row.items ++ (size, value) ∷ [] });
  }

-- A value was taken: the oldest of the row whose turn it was. The turn is that of the row behind it, and nothing
-- else changed.
pub record Takes {T : Type 0} (old : Rows T) (value : T) (new : Rows T) : Type 0 where
  pub number : ℕ
  pub place : ℕ
  pub next : IsNext old number place
  pub row : Row T
  pub at : slice_get old.rows number ≡ Some row
  pub size : ℕ
  pub rest : List (ℕ × T)
  pub oldest : row.items ≡ (size, value) ∷ rest
  pub is : new ≡ record old {
    rows = set old.rows number (after_one row size rest);
    turn = row_behind (length old.rows) number;
  }

-- nothing may be taken from any row
abbrev pub NoneReady : {T : Type 0} → Rows T → Type 0
NoneReady queue = (place : ℕ) → place < length queue.rows
    → ready_at queue.rows (row_at (length queue.rows) queue.turn place) ≡ false
