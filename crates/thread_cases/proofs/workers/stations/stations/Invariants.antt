use Rattle.marks.proofs.Owners.{Owners}
use Rattle.thread_cases.proofs.workers.stations.stations.Given as goal

abbrev pub invariant-loop-i : goal.invariant-loop-i
invariant-loop-i l =
    (goal.iterator-loop-i).can_next l.i-iterator
    × (goal.iterator-loop-i).is_finite l.i-iterator
    × Owners l.marks l.i-iterator.count l.i-iterator.iter.rest.items
