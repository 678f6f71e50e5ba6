-- The parties of a run as the code keeps them, beside the definitions' world.
use Rattle.std.specs.Prelude.{ℕ, ◌≡◌, ◌<◌, List, [], length, slice_index_or, Option}
use Rattle.ids.specs.Sizes.{replicas, client_party}
use Rattle.definitions.specs.Keyrings.{Keys, keyring_of}
use Rattle.definitions.specs.Bytes.{Bytes}
use Rattle.definitions.specs.Frames.{Frame}
use Rattle.definitions.specs.FrameLimits.{IsReadAs}
use Rattle.definitions.specs.Replicas.{MemorySupply, running}
use Rattle.definitions.specs.Sessions.{new_session}
use Rattle.definitions.specs.Worlds.{World, Happening, self_of}
use Rattle.definitions.specs.Admission.{check_gathered}
use Rattle.std.specs.List.{flat_map}
use Rattle.std.specs.Borrow.{Bor}
use Rattle.admission.specs.Gathering.{AreReadAs}
use Rattle.definitions.specs.Events as events
use Rattle.definitions.specs.Events.{comes, offers, submits, acts, effect, client_number, on_checked, listed}
use Rattle.definitions.specs.Rulings.{Input}
use Rattle.definitions.specs.Keyrings.{client_at}
use Rattle.replica.specs.Steps as steps
use Rattle.client_accept.specs.Sessions as sessions
use Rattle.world_schedule.specs.declared.effect.Effect.{Effect}
use Rattle.world_schedule.specs.declared.event.Event.{Event}
use Rattle.world_schedule.specs.Settings.{Setting, is_faulty_in, ring_in}
use Rattle.world_schedule.specs.Schedules.{IsEventOf}
use Rattle.world_schedule.specs.Turns.{Tells}

-- the keys of a party of the world
pub record HasKeysOf (s : Setting) (party : ℕ) (keys : Keys) : Type 0 where
  pub sizes_are : keys.sizes ≡ s.sizes
  pub party_is : keys.party ≡ party
  pub ring_is : keyring_of keys ≡ ring_in s party

-- all replicas by their numbers, and all clients, each with its keys
pub record AreSeated (s : Setting) (held : List steps.Held) (seats : List sessions.Held) : Type 0 where
  pub replica_count : length held ≡ replicas s.sizes
  pub session_count : length seats ≡ s.sizes.clients
  pub replica_keys : (i : ℕ) (d : steps.Held) → i < replicas s.sizes
      → HasKeysOf s i (slice_index_or held i d).keys
  pub session_keys : (c : ℕ) (d : sessions.Held) → c < s.sizes.clients
      → HasKeysOf s (client_party c) (slice_index_or seats c d).keys

-- the world is of this setting
pub record IsIn (s : Setting) (w : World) : Type 0 where
  pub sizes_are : w.sizes ≡ s.sizes
  pub faulty_are : w.is_faulty ≡ is_faulty_in s
  pub rings_are : w.ring ≡ ring_in s

-- so many of a row, each with its property
pub record EachBelow {A : Type 0} (P : ℕ → A → Type 0) (n : ℕ) (row : List A) : Type 0 where
  pub count : length row ≡ n
  pub each : (i : ℕ) (d : A) → i < n → P i (slice_index_or row i d)

-- a replica that has made no step
pub record IsNewReplica (s : Setting) (i : ℕ) (h : steps.Held) : Type 0 where
  pub keys : HasKeysOf s i h.keys
  pub state : h.replica ≡ record { chronicle = []; standing = running }

-- a client that has sent nothing
pub record IsNewSession (s : Setting) (c : ℕ) (h : sessions.Held) : Type 0 where
  pub keys : HasKeysOf s (client_party c) h.keys
  pub state : h.session ≡ new_session

-- the world with what an effect does to its parties
abbrev pub with_effect : World → events.Effect → World
with_effect w f = record w { replica = f.replica; session = f.session }

-- their states are those of the world
pub record AreOf (s : Setting) (held : List steps.Held) (seats : List sessions.Held) (w : World) :
    Type 0 where
  pub setting : IsIn s w
  pub seated : AreSeated s held seats
  pub replicas_are : (i : ℕ) (d : steps.Held) → i < replicas s.sizes
      → (slice_index_or held i d).replica ≡ w.replica i
  pub sessions_are : (c : ℕ) (d : sessions.Held) → c < s.sizes.clients
      → (slice_index_or seats c d).session ≡ w.session c

-- frames come together to a replica
abbrev pub gathers : ℕ → MemorySupply → List Frame → World → events.Effect
gathers to m frames w = on_checked to m (check_gathered (self_of w to) frames) w

-- bytes came to a party that isn't faulty
pub record Brings (s : Setting) (w : World) (to : ℕ) (bytes : Bytes) (held : List steps.Held)
    (seats : List sessions.Held) (e : Effect) : Type 0 where
  pub read : Option Frame
  pub is_read : IsReadAs s.sizes bytes read
  pub memory : MemorySupply
  pub parties : AreOf s held seats (with_effect w (comes to memory read w))
  pub tells : Tells (comes to memory read w) (client_at to) e

-- a client that isn't faulty was handed a payload to submit
pub record Hands (s : Setting) (w : World) (client : ℕ) (payload : Bytes) (held : List steps.Held)
    (seats : List sessions.Held) (e : Effect) : Type 0 where
  pub memory : MemorySupply
  pub parties : AreOf s held seats (with_effect w (submits client memory payload w))
  pub tells : Tells (submits client memory payload w) (client_at (client_party client)) e

-- bytes were offered to a replica that isn't faulty
pub record Offers (s : Setting) (w : World) (to : ℕ) (bytes : Bytes) (held : List steps.Held)
    (seats : List sessions.Held) (e : Effect) : Type 0 where
  pub read : Option Frame
  pub is_read : IsReadAs s.sizes bytes read
  pub memory : MemorySupply
  pub parties : AreOf s held seats (with_effect w (offers to memory read w))
  pub tells : Tells (offers to memory read w) (client_at to) e

-- frames came together to a replica that isn't faulty
pub record Gathers (s : Setting) (w : World) (to : ℕ) (frames : List (Bor Bytes)) (held : List steps.Held)
    (seats : List sessions.Held) (e : Effect) : Type 0 where
  pub reads : List (Option Frame)
  pub are_read : AreReadAs s.sizes frames reads
  pub memory : MemorySupply
  pub parties : AreOf s held seats (with_effect w (gathers to memory (flat_map listed reads) w))
  pub tells : Tells (gathers to memory (flat_map listed reads) w) (client_at to) e

-- a replica that isn't faulty took an input that no frame brings
pub record Moves (s : Setting) (w : World) (input : Input) (i : ℕ) (held : List steps.Held)
    (seats : List sessions.Held) (e : Effect) : Type 0 where
  pub memory : MemorySupply
  pub parties : AreOf s held seats (with_effect w (events.steps i memory input w))
  pub tells : Tells (events.steps i memory input w) (client_at i) e

-- an event came to a party that isn't faulty
pub record Acts (s : Setting) (w : World) (event : Event) (held : List steps.Held)
    (seats : List sessions.Held) (e : Effect) : Type 0 where
  pub happening : Happening
  pub is_event : IsEventOf s.sizes event happening.0
  pub parties : AreOf s held seats (with_effect w (acts w happening.0 happening.1))
  pub tells : Tells (acts w happening.0 happening.1) (client_number happening.0) e

-- an event came to the party that it names
pub record Does (s : Setting) (w : World) (event : Event) (held : List steps.Held)
    (seats : List sessions.Held) (e : Effect) : Type 0 where
  pub happening : Happening
  pub is_event : IsEventOf s.sizes event happening.0
  pub parties : AreOf s held seats (with_effect w (effect w happening))
  pub tells : Tells (effect w happening) (client_number happening.0) e
