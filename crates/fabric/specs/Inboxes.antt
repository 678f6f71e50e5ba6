-- What waits at a link.
use Rattle.std.specs.Prelude.{◌==◌, ℕ, Bool, false, Option, Some, None, length, sum_by}
use Rattle.fair_queue.specs.Queues.{Rows, Row}

-- how many values wait in all rows
abbrev pub count_of : {T : Type 0} → Rows T → ℕ
count_of {T} queue = sum_by (λ (row : Row T). length row.items) queue.rows

-- whether who asks next is told to end, where so many parcels are to be taken before
abbrev pub is_over : Option ℕ → Bool
is_over (Some before) = before == 0
is_over None = false
