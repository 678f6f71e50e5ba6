use Rattle.std.proofs.Common.{◌≡◌, map}
use Rattle.std.specs.List.{range_with_len}
use Rattle.client_seats.specs.Seating.{seated, sits}
use Rattle.client_seats.proofs.all_seats.seats.Given as goal

-- each client so far has its seat
abbrev pub invariant-loop-number : goal.invariant-loop-number
invariant-loop-number g l =
    map sits l.seats.items ≡ map (seated l.keys l.liars) (range_with_len 0 l.number)
