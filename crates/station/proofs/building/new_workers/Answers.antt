use Rattle.std.proofs.Common.{rules, arith, ◌≡◌, option_map}
use Rattle.std.proofs.lemmas.List.Elements.{All-push}
use Rattle.station.specs.Workers.{Worker, lie_by}
use Rattle.station.proofs.building.new_workers.Goals as goal

pub loop-preserved : goal.loop-preserved
loop-preserved c = (
  search rules,
  rw c.push_reserved.ensures.items
      (All-push (λ (w : Worker). w.lie ≡ option_map lie_by c.liar_of-liars.result) _ _ c.loop.invariant.1
      c.in_ok-new_worker.ensures),
  omega (arith, c.push_reserved.ensures.capacity, c.loop.invariant.2),
)
