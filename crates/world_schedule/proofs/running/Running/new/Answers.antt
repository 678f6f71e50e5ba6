use Rattle.std.proofs.Common.{[], refl}
use Rattle.world_schedule.specs.Settings.{start_of}
use Rattle.world_schedule.proofs.Runs.{comes-first}
use Rattle.world_schedule.proofs.running.Running.new.Goals as goal

pub invariant_of-result : goal.invariant_of-result
invariant_of-result c = record {
  happenings = [];
  world = start_of c.args.world.now;
  comes = comes-first _ _ c.in_ok-state.ensures.made;
}

pub returns-clause-made : goal.returns-clause-made
returns-clause-made c =
    record { state = c.in_ok-state.state; goes = refl; comes = comes-first _ _ c.in_ok-state.ensures.made }
