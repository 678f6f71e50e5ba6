-- Each client that waits is healed in its turn, and has its receipt.
use Rattle.std.specs.Prelude.{ℕ, zero, suc, ◌≡◌, ◌<◌, true, false, List, [], ◌++◌, Ok}
use Rattle.std.specs.Option.{option_map_or}
use Rattle.ids.specs.Sizes.{client_party}
use Rattle.definitions.specs.Premises.{ArePremises}
use Rattle.definitions.specs.Runs.{run, after}
use Rattle.definitions.specs.Worlds.{World, Happening}
use Rattle.recovery.specs.Healing.{Phase, heal}
use Rattle.recovery.specs.NeverWedged.{IsAnswered, MayHeal}
use Rattle.world_schedule.specs.declared.event.Event.{Event}
use Rattle.world_schedule.specs.declared.outcome.Outcome.{Outcome}
use Rattle.world_schedule.specs.Outcomes.{TellsOf}
use Rattle.world_schedule.specs.Schedules.{AreThese}
use Rattle.world_schedule.specs.Settings.{Setting, start_of}
use Rattle.healer.specs.Asked.{request_of}

-- what heals a client, if it is correct and waits
unfoldable pub heal_client : ℕ → Phase
heal_client client w = option_map_or (λ k. heal k w) (request_of client w) []

-- the clients below a number are healed, one after the other
unfoldable pub heal_below : ℕ → Phase
heal_below zero w = []
heal_below (suc n) w = heal_below n w ++ heal_client n (after w (heal_below n w))

-- all are
abbrev pub heal_all : Phase
heal_all w = heal_below w.sizes.clients w

-- A correct client that waits has its receipt once all were healed, if it may be healed when its turn comes.
abbrev pub IsServed : World → ℕ → Type 0
IsServed w client =
    w.is_faulty (client_party client) ≡ false → (w.session client).waiting ≡ true
    → MayHeal (after w (heal_below client w))
    → IsAnswered (after w (heal_all w)) client (w.session client).used

-- The run of this schedule ends in a world, and the outcome tells of that behind healing of all. Where the premises hold
-- of both, each client is served.
pub record AreServed (s : Setting) (schedule : List Event) (o : Outcome) : Type 0 where
  pub happenings : List Happening
  pub are_these : AreThese s.sizes schedule happenings
  pub world : World
  pub ends : run (start_of s) happenings ≡ Ok world
  pub tells : TellsOf (after world (heal_all world)) o
  pub served : ArePremises (start_of s) (happenings ++ heal_all world)
      → (client : ℕ) → client < s.sizes.clients → IsServed world client
