use Rattle.std.proofs.Common.{ltb, arith, rules}
use Rattle.std.proofs.lemmas.List.Sorted.{IsPartitionPoint-from_clause, IsPartitionedBy-ltb}
use Rattle.frame_record.proofs.Parting.{from-place}
use Rattle.frame_record.proofs.ordered.place_from.Goals as goal

pub returns-clause-from : goal.returns-clause-from
returns-clause-from c =
    let parted = IsPartitionedBy-ltb (λ r. r.height) _ c.args.height c.requires in
    let point = IsPartitionPoint-from_clause (λ r. ltb r.height c.args.height) _ _
    c.partition_point.ensures.partitioned parted (λ a r q k. search rules) in
    from-place c.args.height c.args.frames.now.items _ point (omega arith)
