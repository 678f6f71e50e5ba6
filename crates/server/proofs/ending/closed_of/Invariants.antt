use Rattle.std.proofs.Common.{◌≡◌, ◌≤◌, ◌+◌, ◌-◌, length, vec_len, vec_capacity}
use Rattle.server.specs.Ends.{AreFrom}
use Rattle.server.proofs.ending.closed_of.Given as goal

-- those that were seen came out, but for the first; and there is room for all
abbrev pub invariant-loop-number : goal.invariant-loop-number
invariant-loop-number l =
    (goal.iterator-loop-number).can_next l.number-iterator
    × (goal.iterator-loop-number).is_finite l.number-iterator
    × (l.number-iterator.count + length l.number-iterator.iter.rest.items ≡ vec_len l.fn.stations)
    × (vec_len l.all ≡ l.number-iterator.count - l.skipped)
    × AreFrom l.config l.skipped (l.number-iterator.count - l.skipped) l.all.items
    × (vec_len l.fn.stations ≤ vec_capacity l.all)
