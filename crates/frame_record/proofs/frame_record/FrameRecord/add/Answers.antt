use Rattle.std.proofs.Common.{arith, ap, ◌≡◌, ◌+◌, List}
use Rattle.frame_record.specs.declared.recorded.Recorded.{Recorded}
use Rattle.frame_record.specs.Costs.{cost, cost_of}
use Rattle.frame_record.specs.Recording.{inserted}
use Rattle.frame_record.proofs.Costing.{cost-inserted}
use Rattle.frame_record.proofs.Order.{order-kept}
use Rattle.frame_record.proofs.frame_record.FrameRecord.add.Goals as goal

pub drop_oldest-self-inside-requires : goal.drop_oldest-self-inside-requires
drop_oldest-self-inside-requires c =
    let r : Recorded = c.args.recorded in
    let old : List Recorded = c.self.inside.frames.items in
    let now = ap (λ (l : List Recorded). cost l) c.in-Ok.ensures.ok in
    let all : cost (inserted r old) ≡ cost old + cost_of r = cost-inserted r old in
    let one : c.cost-cost.result ≡ cost_of r = c.cost-cost.ensures in
    omega (arith, now, all, one, c.self.invariant.counted)

pub invariant_of-self-2 : goal.invariant_of-self-2
invariant_of-self-2 c =
    let r : Recorded = c.args.recorded in
    let kept = order-kept c.self.inside.most r c.self.inside.frames.items c.self.invariant.ordered in
    record {
      counted = c.drop_oldest-self-inside.ensures.counted;
      bounded = c.drop_oldest-self-inside.ensures.bounded;
      small = c.self.invariant.small;
      ordered = rw (c.drop_oldest-self-inside.ensures.fits, c.in-Ok.ensures.ok) kept;
    }
