-- A run that is healed, beside the definitions' run.
use Rattle.ids.specs.Sizes.{replicas}
use Rattle.std.specs.Prelude.{ℕ, ◌≡◌, ◌<◌, List, [], ◌∷◌, ◌++◌, Option, Some, None}
use Rattle.definitions.specs.Checks.{identity_of}
use Rattle.definitions.specs.Events.{happens}
use Rattle.definitions.specs.Frames.{Frame}
use Rattle.definitions.specs.Replicas.{MemorySupply.ample}
use Rattle.definitions.specs.Runs.{refusal, after}
use Rattle.definitions.specs.Worlds.{World, Happening, self_of}
use Rattle.recovery.specs.Correct.{correct_replicas}
use Rattle.recovery.specs.Healing.{Phase}
use Rattle.replica.specs.Steps as steps
use Rattle.world_schedule.specs.declared.event.Event.{Event}
use Rattle.world_schedule.specs.declared.running.State.{State}
use Rattle.world_schedule.specs.Settings.{Setting}
use Rattle.world_schedule.specs.Schedules.{event_of}
use Rattle.world_schedule.specs.Progress.{Stand, StandsAt, HasRun}

-- a schedule, and the world that it runs in
pub record Origin : Type 0 where
  pub setting : Setting
  pub schedule : List Event

-- the events that healing added to a schedule, and where the run of both stands
pub record Course : Type 0 where
  pub origin : Origin
  pub added : List Event
  pub stand : Stand

-- it is their run, unless a refusal ended it
abbrev pub IsTheirs : Course → Type 0
IsTheirs c =
    (state : State) → c.stand.state ≡ Some state
    → HasRun c.origin.setting (c.origin.schedule ++ c.added) c.stand

-- one event happened, with ample memory
pub record Took (old new : Stand) (event : Event) (hs : List Happening) (w : World) : Type 0 where
  pub reads : List (Option Frame)
  pub allowed : refusal w (event_of reads event) ≡ None
  pub stands : StandsAt new (hs ++ (event_of reads event, ample) ∷ []) (happens w (event_of reads event, ample))

-- so it is wherever the run stood
abbrev pub Takes : Course → Event → Course → Type 0
Takes old event new =
    (hs : List Happening) (w : World) → StandsAt old.stand hs w → Took old.stand new.stand event hs w

-- This phase came about, from each world in which the run may have stood.
abbrev pub Goes : Course → Phase → Course → Type 0
Goes old phase new =
    (hs : List Happening) (w : World) → StandsAt old.stand hs w
    → StandsAt new.stand (hs ++ phase w) (after w (phase w))

-- the same, from each where P holds
abbrev pub GoesWhere : Course → (World → Type 0) → Phase → Course → Type 0
GoesWhere old P phase new =
    (hs : List Happening) (w : World) → StandsAt old.stand hs w → P w
    → StandsAt new.stand (hs ++ phase w) (after w (phase w))

-- what is told is so of each world in which the run may stand
abbrev pub Told : Course → (World → Type 0) → Type 0
Told c Q = (hs : List Happening) (w : World) → StandsAt c.stand hs w → Q w

-- of each where P holds
abbrev pub ToldWhere : Course → (World → Type 0) → (World → Type 0) → Type 0
ToldWhere c P Q = (hs : List Happening) (w : World) → StandsAt c.stand hs w → P w → Q w

-- the number is that of a replica of the world
abbrev pub HasReplica : ℕ → World → Type 0
HasReplica r w = r < replicas w.sizes

-- the number is that of a client of the world
abbrev pub HasClient : ℕ → World → Type 0
HasClient c w = c < w.sizes.clients

-- these are the world's correct replicas
abbrev pub AreCorrect : List ℕ → World → Type 0
AreCorrect rs w = rs ≡ correct_replicas w

-- it is a replica of the world, with its keys
pub record IsReplicaIn (w : World) (i : ℕ) (h : steps.Held) : Type 0 where
  pub self : identity_of h.keys ≡ self_of w i
  pub state : h.replica ≡ w.replica i
