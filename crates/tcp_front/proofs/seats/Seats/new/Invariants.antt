use Rattle.std.proofs.Common.{◌≡◌, ◌≤◌, ◌+◌, ◌++◌, length, vec_len, vec_capacity}
use Rattle.std.specs.List.{flat_map}
use Rattle.tcp_front.proofs.seats.Seats.new.Given as goal

abbrev pub invariant-loop-seat : goal.invariant-loop-seat
invariant-loop-seat g l =
    (goal.iterator-loop-seat g).can_next l.seat-iterator
    × (goal.iterator-loop-seat g).is_finite l.seat-iterator
    × (flat_map (λ slot. slot) l.slots.items ++ l.seat-iterator.rest.items ≡ l.fn.seats.items)
    × (length (flat_map (λ slot. slot) l.slots.items) ≡ vec_len l.slots)
    × (vec_len l.slots + length l.seat-iterator.rest.items ≤ vec_capacity l.slots)
