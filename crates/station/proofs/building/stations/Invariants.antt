use Rattle.std.proofs.Common.{◌≡◌, vec_len}
use Rattle.std.specs.Prelude.{All}
use Rattle.std.specs.List.{range_with_len}
use Rattle.marks.proofs.Owners.{Owners}
use Rattle.station.specs.Keeping.{keep}
use Rattle.station.specs.Stations.{AllKeep, numbers_of}
use Rattle.station.specs.Workers.{LieFrom, worker_count}
use Rattle.station.proofs.building.stations.Given as goal

-- as many stations as eyes were taken, each of its number and as the terms say
abbrev pub invariant-loop-number : goal.invariant-loop-number
invariant-loop-number l =
    (goal.iterator-loop-number).can_next l.number-iterator
    × (goal.iterator-loop-number).is_finite l.number-iterator
    × Owners l.marks l.number-iterator.count l.number-iterator.iter.rest.items
    × All (λ workers. vec_len workers ≡ worker_count l.terms.workers) l.workers.items
    × (vec_len l.stations ≡ vec_len l.workers)
    × (vec_len l.workers ≡ l.number-iterator.count)
    × (numbers_of l.stations.items ≡ range_with_len 0 l.number-iterator.count)
    × AllKeep (keep l.terms l.keys.sizes) l.stations.items
    × LieFrom l.terms.liars 0 l.workers.items
