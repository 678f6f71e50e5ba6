use Rattle.std.proofs.Common.{◌≡◌, length, leb, arith, rules}
use Rattle.std.proofs.lemmas.List.Sorted.{IsPartitionPoint-from_clause, IsPartitionedBy-leb}
use Rattle.frame_record.proofs.Parting.{above-place, all-up-to, up-to-place}
use Rattle.frame_record.proofs.ordered.place_behind.Goals as goal

pub returns-then-is_highest-clause-before : goal.returns-then-is_highest-clause-before
returns-then-is_highest-clause-before c =
    let len : c.len.result ≡ length c.args.frames.now.items = omega arith in
    up-to-place _ _ _ (all-up-to c.args.height c.args.frames.now.items c.len.result len c.if-is_highest.ensures)
    (omega arith)

pub returns-then-is_highest-clause-behind : goal.returns-then-is_highest-clause-behind
returns-then-is_highest-clause-behind c =
    let len : c.len.result ≡ length c.args.frames.now.items = omega arith in
    above-place _ _ _ (all-up-to c.args.height c.args.frames.now.items c.len.result len c.if-is_highest.ensures)
    (omega arith)

pub returns-clause-before : goal.returns-clause-before
returns-clause-before c =
    let parted = IsPartitionedBy-leb (λ r. r.height) _ c.args.height c.requires in
    let point = IsPartitionPoint-from_clause (λ r. leb r.height c.args.height) _ _
    c.partition_point.ensures.partitioned parted (λ a r q k. search rules) in
    up-to-place c.args.height c.args.frames.now.items _ point (omega arith)

pub returns-clause-behind : goal.returns-clause-behind
returns-clause-behind c =
    let parted = IsPartitionedBy-leb (λ r. r.height) _ c.args.height c.requires in
    let point = IsPartitionPoint-from_clause (λ r. leb r.height c.args.height) _ _
    c.partition_point.ensures.partitioned parted (λ a r q k. search rules) in
    above-place c.args.height c.args.frames.now.items _ point (omega arith)
