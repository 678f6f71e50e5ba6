-- What a run of a schedule is.
use Rattle.std.specs.Prelude.{◌≡◌, List, Ok}
use Rattle.definitions.specs.Digests.{NoCollision}
use Rattle.definitions.specs.Worlds.{World, Happening}
use Rattle.definitions.specs.Runs.{run}
use Rattle.definitions.specs.Premises.{NoForgery, CoreOfRun}
use Rattle.definitions.specs.Linearity.{IsLinear}
use Rattle.linear_law.specs.Law.{NoneConflicts}
use Rattle.world_schedule.specs.declared.event.Event.{Event}
use Rattle.world_schedule.specs.declared.outcome.Outcome.{Outcome}
use Rattle.world_schedule.specs.Settings.{Setting, start_of}
use Rattle.world_schedule.specs.Schedules.{AreThese}
use Rattle.world_schedule.specs.Outcomes.{TellsOf}

-- The definitions' run over these events ends in a world of which the outcome tells. Where no tag is forged
-- in it and no two of its cores collide, it is linear, and no event was answered with a conflict.
pub record IsRunOf (s : Setting) (events : List Event) (o : Outcome) : Type 0 where
  pub happenings : List Happening
  pub are_these : AreThese s.sizes events happenings
  pub last : World
  pub ends : run (start_of s) happenings ≡ Ok last
  pub tells : TellsOf last o
  pub linear : NoForgery (start_of s) happenings → NoCollision (CoreOfRun (start_of s) happenings)
      → IsLinear last × NoneConflicts last
