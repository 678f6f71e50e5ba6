use Rattle.std.proofs.Common.{rules, ◌<◌, length, set, get_or, ap, ◌∙◌}
use Rattle.std.proofs.lemmas.List.Edits.{map_over_more}
use Rattle.fair_queue.specs.Queues.{refilled}
use Rattle.fair_queue.proofs.queue.FairQueue.refill.Goals as goal

pub loop-row-preserved : goal.loop-row-preserved
loop-row-preserved g c =
    let within : c.loop-row.row-index < length c.deref_mut-row-items.result.now = search rules in
    ap (set c.loop-row.row-items c.loop-row.row-index) c.refill.ensures
    ∙ map_over_more (refilled _) _ _ _ _ within c.loop-row.invariant
    (ap (get_or c.loop-row.row-items c.loop-row.row-index) c.row-item.is)
