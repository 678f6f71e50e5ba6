-- What events bring to one party.
use Rattle.ids.specs.declared.fault.Fault.TheVariants as fault
use Rattle.std.specs.Prelude.{ℕ, ◌≡◌, ◌<◌, List, [], map, Option, Some, None, ⊤}
use Rattle.std.specs.List.{flat_map}
use Rattle.std.specs.Borrow.{Bor}
use Rattle.admission.specs.Gathering.{AreReadAs}
use Rattle.std.specs.Option.{option_to_list}
use Rattle.definitions.specs.Bytes.{Bytes}
use Rattle.definitions.specs.Frames.{Frame}
use Rattle.definitions.specs.FrameLimits.{IsReadAs}
use Rattle.definitions.specs.Keyrings.{client_at}
use Rattle.definitions.specs.Checks.{Identity}
use Rattle.ids.specs.Sizes.{Sizes, replicas}
use Rattle.definitions.specs.Rulings.{Input, timeout_in, beat_in, prune_in, lead_in, ask_in}
use Rattle.definitions.specs.Replicas.{MemorySupply, Replica, Reaction, fails, step}
use Rattle.definitions.specs.Admission.{Checked, passes, rejected, check_gathered}
use Rattle.definitions.specs.Sessions.{Client, Session, Heard, not_counted, submission, on_reply}
use Rattle.definitions.specs.Events as events
use Rattle.definitions.specs.Events.{out_of, answer_of, submitted_out, submitted_answer, accepted_of}
use Rattle.definitions.specs.Events.{heard_answer, listed}
use Rattle.signed_frames.specs.Clients.{client_of}
use Rattle.replica.specs.Steps.{shown}
use Rattle.signed_frames.specs.Outs.{sent_of}
use Rattle.client_accept.specs.Sessions.{Held}
use Rattle.world_schedule.specs.declared.effect.Effect.{Effect}

-- the effect tells what goes out, what is accepted and what is answered
pub record Tells (f : events.Effect) (client : ℕ) (e : Effect) : Type 0 where
  pub out : map sent_of e.out.items ≡ shown f.out
  pub accepted : option_to_list e.accepted ≡ map (λ r. (client, r)) f.accepted
  pub answer : e.answer ≡ f.answer

-- ---- a replica

-- what a replica makes of a frame that was checked
abbrev pub admits : Identity → MemorySupply → Checked → Replica → Replica × Reaction
admits self m (passes i) r = step self m i r
admits self m (rejected n) r = (r, fails n)

-- what the checks of a frame come to, where bytes are read so
abbrev pub checked : (Identity → Frame → Checked) → Identity → Option Frame → Checked
checked checks self None = rejected fault.NotAFrame
checked checks self (Some f) = checks self f

-- the effect tells of a reaction
pub record TellsReaction (self : Identity) (m : MemorySupply) (x : Reaction) (e : Effect) : Type 0 where
  pub out : map sent_of e.out.items ≡ shown (out_of self m x)
  pub accepted : e.accepted ≡ None
  pub answer : e.answer ≡ answer_of x

-- an input that no frame brings; who is to be asked is a replica
abbrev pub IsMove : Sizes → Input → Type 0
IsMove sizes timeout_in = ⊤
IsMove sizes beat_in = ⊤
IsMove sizes (prune_in height) = ⊤
IsMove sizes (lead_in block) = ⊤
IsMove sizes (ask_in to block) = to < replicas sizes
IsMove sizes input = ⊥

-- whom it has a replica ask, and for which block
abbrev pub asked_by : Input → Option (ℕ × Bytes)
asked_by (ask_in to block) = Some (to, block)
asked_by input = None

-- what was checked came to a replica
pub record Takes (self : Identity) (x : Checked) (old new : Replica) (e : Effect) : Type 0 where
  pub memory : MemorySupply
  pub state : new ≡ (admits self memory x old).0
  pub tells : TellsReaction self memory (admits self memory x old).1 e

-- bytes came to a replica, which makes these checks
pub record TakesBytes (checks : Identity → Frame → Checked) (self : Identity) (bytes : Bytes)
    (old new : Replica) (e : Effect) : Type 0 where
  pub read : Option Frame
  pub is_read : IsReadAs self.sizes bytes read
  pub takes : Takes self (checked checks self read) old new e

-- frames came to a replica together
pub record TakesCopies (self : Identity) (frames : List (Bor Bytes)) (old new : Replica) (e : Effect) :
    Type 0 where
  pub reads : List (Option Frame)
  pub are_read : AreReadAs self.sizes frames reads
  pub takes : Takes self (check_gathered self (flat_map listed reads)) old new e

-- ---- a client

-- what a client makes of bytes that are read so
abbrev pub hears : Client → MemorySupply → Option Frame → Session → Session × Heard
hears me m None s = (s, not_counted fault.NotAFrame)
hears me m (Some f) s = on_reply me m f s

-- a client was handed a payload to submit
pub record Submits (old : Held) (payload : Bytes) (new : Held) (e : Effect) : Type 0 where
  pub keys : new.keys ≡ old.keys
  pub memory : MemorySupply
  pub state : new.session ≡ (submission (client_of old.keys) memory payload old.session).0
  pub out : map sent_of e.out.items
      ≡ shown (submitted_out (submission (client_of old.keys) memory payload old.session).1)
  pub accepted : e.accepted ≡ None
  pub answer : e.answer ≡ submitted_answer (submission (client_of old.keys) memory payload old.session).1

-- bytes came to a client
pub record Hears (old : Held) (bytes : Bytes) (new : Held) (e : Effect) : Type 0 where
  pub keys : new.keys ≡ old.keys
  pub read : Option Frame
  pub is_read : IsReadAs old.keys.sizes bytes read
  pub memory : MemorySupply
  pub state : new.session ≡ (hears (client_of old.keys) memory read old.session).0
  pub out : e.out.items ≡ []
  pub accepted : option_to_list e.accepted
      ≡ map (λ r. (client_at old.keys.party, r))
      (accepted_of (hears (client_of old.keys) memory read old.session).1)
  pub answer : e.answer ≡ heard_answer (hears (client_of old.keys) memory read old.session).1
