use Rattle.std.proofs.Common.{◌≡◌, map, take}
use Rattle.world_schedule.specs.declared.event.Source.TheVariants.{Record}
use Rattle.healer.proofs.fetching.sources_of.Given as goal

abbrev pub invariant-loop-frame : goal.invariant-loop-frame
invariant-loop-frame l = l.sources.items ≡ map (λ k. Record k) (take l.frame-index l.frames)
