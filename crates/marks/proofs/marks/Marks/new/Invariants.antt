use Rattle.std.proofs.Common.{◌≡◌, ◌≤◌, ◌+◌, map, replicate, vec_capacity}
use Rattle.std.specs.List.{range_with_len}
use Rattle.marks.specs.Eyes.{first_eye}
use Rattle.marks.proofs.marks.Marks.new.Given as goal

abbrev pub invariant-loop : goal.invariant-loop
invariant-loop l =
    (l.rest.table_id ≡ l.table.shared.table_id)
    × (l.rest.me.0 ≡ record { first = l.counter; end = l.n; put = 0; seen = replicate l.n 0 })
    × (l.eyes.items ≡ map (first_eye l.table.shared.table_id) (range_with_len 0 l.counter))
    × (l.n + 1 ≤ vec_capacity l.eyes)
