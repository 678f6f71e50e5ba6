-- It is among the others, if it is there.
use Rattle.std.proofs.Common.{◌≡◌, map}
use Rattle.std.specs.VecDeque.Iter.{deque_iter_rest}
use Rattle.liars.specs.Kept.{kept_of}
use Rattle.liars.specs.Low.{certificate_at}
use Rattle.liars.proofs.low.find.Given as goal

abbrev pub invariant-loop-one : goal.invariant-loop-one
invariant-loop-one l =
    certificate_at l.height (map kept_of (deque_iter_rest l.one-iterator))
    ≡ certificate_at l.height (map kept_of l.kept.items)
