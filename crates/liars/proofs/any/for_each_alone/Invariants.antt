-- The frames so far.
use Rattle.std.proofs.Common.{◌≡◌, map}
use Rattle.std.specs.List.{range_with_len}
use Rattle.liars.specs.Any.{for_one_alone}
use Rattle.liars.specs.Told.{bytes_of}
use Rattle.liars.proofs.any.for_each_alone.Given as goal

abbrev pub invariant-loop-number : goal.invariant-loop-number
invariant-loop-number l =
    map bytes_of l.out.items ≡ map (for_one_alone l.config l.frame) (range_with_len 0 l.number)
