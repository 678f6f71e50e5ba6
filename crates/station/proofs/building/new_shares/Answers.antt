use Rattle.std.proofs.Common.{rules, arith, ap, sym, ◌∙◌}
use Rattle.station.specs.Stations.{shared}
use Rattle.station.proofs.Sharing.{shared_none, shared_more}
use Rattle.station.proofs.building.new_shares.Goals as goal

pub loop-init : goal.loop-init
loop-init c = (search rules, search rules, sym (shared_none _))

pub loop-preserved : goal.loop-preserved
loop-preserved c = (
  search rules,
  omega (arith, c.push_reserved.ensures.capacity, c.loop.invariant.1),
  c.in_ok-share.ensures.kept ∙ ap (shared 1) c.loop.invariant.2 ∙ shared_more c.loop.counter _,
)
