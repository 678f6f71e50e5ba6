use Rattle.std.proofs.Common.{rules, arith, sym, subst, ◌≡◌, map}
use Rattle.std.specs.List.{range_with_len}
use Rattle.marks.specs.Eyes.{first_eye}
use Rattle.marks.proofs.Owners.{Owners, owners_from}
use Rattle.thread_cases.proofs.workers.stations.stations.Goals as goal

pub loop-i-init : goal.loop-i-init
loop-i-init c =
    let z = c.args.marks.now in
    let it = c.into_iter-i-iterator.result in
    let first : it.count ≡ 0 = search rules in
    let all : it.iter.rest.items ≡ map (first_eye z) (range_with_len 0 z.words) = search rules in (
      search rules,
      search rules,
      subst (λ k. Owners z k it.iter.rest.items) (sym first)
          (subst (Owners z 0) (sym all) (owners_from z z.words 0 (omega arith))),
    )
