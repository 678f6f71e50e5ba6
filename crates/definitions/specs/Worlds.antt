-- Worlds: replicas, clients, what was sent, and every schedule of events.
use Rattle.ids.specs.declared.fault.Fault.{Fault}
use Rattle.std.specs.Prelude.{ℕ, ◌==◌, ◌&&◌, Bool, List, [], if◌then◌else◌, Option, not}
use Rattle.definitions.specs.Frames.{Frame}
use Rattle.definitions.specs.Bytes.{Bytes}
use Rattle.ids.specs.Sizes.{Sizes, client_party}
use Rattle.definitions.specs.Keyrings.{Keyring, is_replica_of, is_party_of}
use Rattle.definitions.specs.Checks.{Identity}
use Rattle.definitions.specs.Sendings.{To}
use Rattle.definitions.specs.Replicas.{MemorySupply, Replica, Standing.running}
use Rattle.definitions.specs.Sessions.{Client, Session, new_session, Receipt}

-- A frame that a correct party sent, in the event of this number.
pub record Sent : Type 0 where
  pub event : ℕ
  pub sender : ℕ
  pub to : To
  pub frame : Frame

-- a receipt, whose it is, and in which event
pub record AcceptedBy : Type 0 where
  pub event : ℕ
  pub client : ℕ
  pub receipt : Receipt

-- the state of a run
pub record World : Type 0 where
  pub sizes : Sizes
  pub is_faulty : ℕ → Bool  -- by party number
  pub ring : ℕ → Keyring
  pub replica : ℕ → Replica
  pub session : ℕ → Session
  pub sent : List Sent  -- oldest first, numbered from 0
  pub receipts : List AcceptedBy  -- newest first, as the answers
  pub answers : List (Option Fault)  -- none where the event stood, else its refusal
  pub now : ℕ  -- the number of the next event, from 1

-- Where a frame comes from: the record, or any bytes, which are read as this frame or as none.
pub data Source : Type 0 where
  of_record : (frame : ℕ) → Source
  of_bytes : (bytes : Bytes) → (read : Option Frame) → Source

-- A client submits a payload; a frame of the record comes to a party; any bytes come to a party, which
-- reads them as this frame or as none; a replica's time is out, its beat comes, or it prunes its tree.
pub data Event : Type 0 where
  submit : (client : ℕ) → (payload : Bytes) → Event
  relay : (frame to : ℕ) → Event
  inject : (to : ℕ) → (bytes : Bytes) → (read : Option Frame) → Event
  timeout : (replica : ℕ) → Event
  beat : (replica : ℕ) → Event
  prune : (replica height : ℕ) → Event
  -- a frame is offered to a replica, whatever its certificate
  offer : (to : ℕ) → Source → Event
  -- copies of a block come to a replica together
  gather : (to : ℕ) → List Source → Event
  -- a replica is told to lead from a block, or to ask another replica for one
  lead : (replica : ℕ) → (block : Bytes) → Event
  ask : (replica to : ℕ) → (block : Bytes) → Event

-- an event, with how its party meets the allocator in it
abbrev pub Happening : Type 0
Happening = Event × MemorySupply

-- the world at the start
unfoldable pub new_world : Sizes → (ℕ → Bool) → (ℕ → Keyring) → World
new_world sizes is_faulty ring = record {
  sizes = sizes;
  is_faulty = is_faulty;
  ring = ring;
  replica = λ i. record { chronicle = []; standing = running };
  session = λ c. new_session;
  sent = [];
  receipts = [];
  answers = [];
  now = 1;
}

-- ---- parties

-- the number is that of a replica
abbrev pub is_replica : World → ℕ → Bool
is_replica w p = is_replica_of w.sizes p

-- the number is that of a party
abbrev pub is_party : World → ℕ → Bool
is_party w p = is_party_of w.sizes p

-- a replica that isn't faulty
abbrev pub is_correct : World → ℕ → Bool
is_correct w p = is_replica w p && not (w.is_faulty p)

-- a replica of the world
abbrev pub self_of : World → ℕ → Identity
self_of w p = record { sizes = w.sizes; ring = w.ring p }

-- a client of the world
abbrev pub client_of : World → ℕ → Client
client_of w c = record { sizes = w.sizes; number = c; ring = w.ring (client_party c) }

-- the row with x at i
abbrev pub put : {A : Type 0} → ℕ → A → (ℕ → A) → ℕ → A
put i x row j = if j == i then x else row j
