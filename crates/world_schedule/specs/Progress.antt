-- A run so far, beside the definitions' run.
use Rattle.std.specs.Prelude.{ℕ, ◌≡◌, suc, List, [], ◌∷◌, ◌++◌, length, map, reverse, Option, Some, None}
use Rattle.std.specs.Prelude.{Ok}
use Rattle.definitions.specs.Premises.{AllRead}
use Rattle.definitions.specs.Worlds.{World, Happening}
use Rattle.ids.specs.Sizes.{client_party}
use Rattle.replica.specs.Steps as steps
use Rattle.client_accept.specs.Sessions as sessions
use Rattle.definitions.specs.Events.{happens}
use Rattle.definitions.specs.Runs.{refusal, run}
use Rattle.world_schedule.specs.declared.event.Event.{Event}
use Rattle.world_schedule.specs.declared.journal.Journal.{Journal}
use Rattle.world_schedule.specs.declared.running.State.{State}
use Rattle.world_schedule.specs.Settings.{Setting, start_of}
use Rattle.world_schedule.specs.Schedules.{IsEventOf, AreThese}
use Rattle.world_schedule.specs.Outcomes.{shown_frame, shown_sent, accepted_by}
use Rattle.world_schedule.specs.Seats.{AreOf, HasKeysOf}

-- what was told so far is that of the world
pub record IsJournalOf (r : Journal) (w : World) : Type 0 where
  pub frames : map shown_frame r.frames.items ≡ map shown_sent w.sent
  pub answers : r.answers.items ≡ reverse w.answers
  pub receipts : map accepted_by r.receipts.items ≡ reverse w.receipts
  pub now : w.now ≡ suc (length r.answers.items)

-- the run stands where the world does
pub record IsAt (s : Setting) (state : State) (w : World) : Type 0 where
  pub parties : AreOf s state.parties.replicas.items state.parties.sessions.items w
  pub told : IsJournalOf state.journal w

-- one event more
pub record GoesOn (s : Setting) (w : World) (event : Event) (state : State) : Type 0 where
  pub happening : Happening
  pub is_event : IsEventOf s.sizes event happening.0
  pub allowed : refusal w happening.0 ≡ None
  pub now_at : IsAt s state (happens w happening)

-- The definitions' run of these happenings ends in this world, all bytes read rightly; and there the code's run stands.
pub record ComesTo (s : Setting) (state : State) (hs : List Happening) (w : World) : Type 0 where
  pub read : AllRead s.sizes hs
  pub ends : run (start_of s) hs ≡ Ok w
  pub now_at : IsAt s state w

-- so it is for some happenings
pub record HasCome (s : Setting) (state : State) : Type 0 where
  pub happenings : List Happening
  pub world : World
  pub comes : ComesTo s state happenings world

-- A run that goes on one event at a time: its setting, and where it stands, which nobody knows after a refusal.
pub record Stand : Type 0 where
  pub setting : Setting
  pub state : Option State

-- it stands where these happenings lead, which is this world
pub record StandsAt (r : Stand) (hs : List Happening) (w : World) : Type 0 where
  pub state : State
  pub goes : r.state ≡ Some state
  pub comes : ComesTo r.setting state hs w

-- one event more happened, with some choice of memory
pub record Happened (s : Setting) (hs : List Happening) (w : World) (event : Event) (r : Stand) : Type 0 where
  pub happening : Happening
  pub is_event : IsEventOf s.sizes event happening.0
  pub allowed : refusal w happening.0 ≡ None
  pub stands : StandsAt r (hs ++ happening ∷ []) (happens w happening)

-- these events happened
pub record HasRun (s : Setting) (these : List Event) (r : Stand) : Type 0 where
  pub setting : r.setting ≡ s
  pub happenings : List Happening
  pub are_these : AreThese s.sizes these happenings
  pub world : World
  pub stands : StandsAt r happenings world

-- it is a replica of the world, with its keys
pub record IsReplicaOf (s : Setting) (w : World) (i : ℕ) (h : steps.Held) : Type 0 where
  pub keys : HasKeysOf s i h.keys
  pub state : h.replica ≡ w.replica i

-- it is a client's session in the world, with the client's keys
pub record IsSessionOf (s : Setting) (w : World) (c : ℕ) (h : sessions.Held) : Type 0 where
  pub keys : HasKeysOf s (client_party c) h.keys
  pub state : h.session ≡ w.session c
