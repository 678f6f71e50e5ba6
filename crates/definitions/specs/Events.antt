-- One event of a run: what it does to the party that it names.
use Rattle.ids.specs.declared.fault.Fault.{Fault}
use Rattle.ids.specs.declared.fault.Fault.TheVariants as fault
use Rattle.std.specs.Prelude.{ℕ, suc, ◌==◌, ◌&&◌, not, List, [], ◌∷◌, ◌++◌, map, if◌then◌else◌, Option}
use Rattle.std.specs.Prelude.{Some, None, slice_get, option_map}
use Rattle.definitions.specs.Frames.{Frame}
use Rattle.definitions.specs.Bytes.{Bytes}
use Rattle.ids.specs.Sizes.{client_party}
use Rattle.definitions.specs.Keyrings.{client_at}
use Rattle.definitions.specs.Checks.{Identity}
use Rattle.definitions.specs.Rulings.{Input, Input.timeout_in, Input.beat_in, Input.prune_in}
use Rattle.definitions.specs.Rulings.{Input.lead_in, Input.ask_in}
use Rattle.definitions.specs.Sendings.{To.to_all, To.to_party, Sending, fetch_frame}
use Rattle.definitions.specs.Replicas.{MemorySupply, Replica, Reaction, Reaction.sends_out, Reaction.fails}
use Rattle.definitions.specs.Replicas.{Reaction.asks_for, step}
use Rattle.definitions.specs.Sessions.{Session, Receipt, Submitted, Submitted.sent_request}
use Rattle.definitions.specs.Sessions.{Submitted.not_sent, Heard, Heard.gives_receipt, Heard.only_counts}
use Rattle.definitions.specs.Sessions.{Heard.not_counted, is_ample, submission, on_reply}
use Rattle.definitions.specs.Worlds.{World, Event, Happening, is_replica, self_of, client_of, put, submit}
use Rattle.definitions.specs.Worlds.{relay, inject, timeout, beat, prune, offer, gather, lead, ask}
use Rattle.definitions.specs.Worlds.{Source, of_record, of_bytes}
use Rattle.definitions.specs.Admission.{Checked, passes, rejected, check, check_offer, check_gathered}

-- ---- one event

-- What an event does: the replicas and sessions after it, what its party sends and accepts, and the refusal
-- that it is answered, if any.
pub record Effect : Type 0 where
  pub replica : ℕ → Replica
  pub session : ℕ → Session
  pub out : List Sending
  pub accepted : List Receipt  -- one at most
  pub answer : Option Fault

-- nothing changes
unfoldable pub nothing : World → Option Fault → Effect
nothing w a = record { replica = w.replica; session = w.session; out = []; accepted = []; answer = a }

-- a frame for a block that was lacking goes to who named it, where memory serves and that is another party
abbrev pub out_of : Identity → MemorySupply → Reaction → List Sending
out_of self m (sends_out out) = out
out_of self m (fails n) = []
out_of self m (asks_for sender d) =
    if is_ample m && not (sender == self.ring.party)
    then (to_party sender, fetch_frame self sender d) ∷ []
    else []

-- the refusal of a reaction
abbrev pub answer_of : Reaction → Option Fault
answer_of (sends_out out) = None
answer_of (fails n) = Some n
answer_of (asks_for sender d) = Some fault.UnknownParent

-- a replica's step in the world
unfoldable pub stepped : World → ℕ → MemorySupply → Replica × Reaction → Effect
stepped w p m r = record {
  replica = put p r.0 w.replica;
  session = w.session;
  out = out_of (self_of w p) m r.1;
  accepted = [];
  answer = answer_of r.1;
}

-- a replica takes an input
abbrev pub steps : ℕ → MemorySupply → Input → World → Effect
steps p m i w = stepped w p m (step (self_of w p) m i (w.replica p))

-- a replica takes a frame that was checked
abbrev pub on_checked : ℕ → MemorySupply → Checked → World → Effect
on_checked p m (passes i) w = steps p m i w
on_checked p m (rejected n) w = nothing w (Some n)

-- the receipt, if any
abbrev pub accepted_of : Heard → List Receipt
accepted_of (gives_receipt r) = r ∷ []
accepted_of only_counts = []
accepted_of (not_counted n) = []

-- the refusal of a frame to a client
abbrev pub heard_answer : Heard → Option Fault
heard_answer (gives_receipt r) = None
heard_answer only_counts = None
heard_answer (not_counted n) = Some n

-- a client heard a frame
unfoldable pub told : World → ℕ → Session × Heard → Effect
told w c r = record {
  replica = w.replica;
  session = put c r.0 w.session;
  out = [];
  accepted = accepted_of r.1;
  answer = heard_answer r.1;
}

-- a client takes a frame
abbrev pub hears : ℕ → MemorySupply → Frame → World → Effect
hears c m f w = told w c (on_reply (client_of w c) m f (w.session c))

-- the request that goes out
abbrev pub submitted_out : Submitted → List Sending
submitted_out (sent_request f) = (to_all, f) ∷ []
submitted_out (not_sent n) = []

-- the refusal of a submission
abbrev pub submitted_answer : Submitted → Option Fault
submitted_answer (sent_request f) = None
submitted_answer (not_sent n) = Some n

-- a client submitted
unfoldable pub submitted : World → ℕ → Session × Submitted → Effect
submitted w c r = record {
  replica = w.replica;
  session = put c r.0 w.session;
  out = submitted_out r.1;
  accepted = [];
  answer = submitted_answer r.1;
}

-- a client takes a payload
abbrev pub submits : ℕ → MemorySupply → Bytes → World → Effect
submits c m payload w = submitted w c (submission (client_of w c) m payload (w.session c))

-- a frame comes to a correct party
unfoldable pub comes : ℕ → MemorySupply → Option Frame → World → Effect
comes p m None w = nothing w (Some fault.NotAFrame)
comes p m (Some f) w =
    if is_replica w p then on_checked p m (check (self_of w p) f) w else hears (client_at p) m f w

-- a frame is offered to a correct replica
unfoldable pub offers : ℕ → MemorySupply → Option Frame → World → Effect
offers p m None w = nothing w (Some fault.NotAFrame)
offers p m (Some f) w = on_checked p m (check_offer (self_of w p) f) w

-- the party that an event names
unfoldable pub party_of : Event → ℕ
party_of (submit c payload) = client_party c
party_of (relay k to) = to
party_of (inject to bytes read) = to
party_of (timeout r) = r
party_of (beat r) = r
party_of (prune r height) = r
party_of (offer to source) = to
party_of (gather to sources) = to
party_of (lead r d) = r
party_of (ask r to d) = r

-- the frame of this number in the record
abbrev pub recorded : World → ℕ → Option Frame
recorded w k = option_map (λ s. s.frame) (slice_get w.sent k)

-- the frame of a source: that of the record, or what the bytes are read as
abbrev pub frame_of : World → Source → Option Frame
frame_of w (of_record k) = recorded w k
frame_of w (of_bytes bytes read) = read

-- a frame, or none, as a list
abbrev pub listed : Option Frame → List Frame
listed None = []
listed (Some f) = f ∷ []

-- the frames of these sources; bytes that are no frame are left out
abbrev pub frames_of : World → List Source → List Frame
frames_of w [] = []
frames_of w (s ∷ ss) = listed (frame_of w s) ++ frames_of w ss

-- the frames that an event brings
unfoldable pub brought : World → Event → List Frame
brought w (relay k to) = listed (recorded w k)
brought w (inject to bytes read) = listed read
brought w (offer to source) = listed (frame_of w source)
brought w (gather to sources) = frames_of w sources
brought w e = []

-- what an event does to the correct party that it names
unfoldable pub acts : World → Event → MemorySupply → Effect
acts w (submit c payload) m = submits c m payload w
acts w (relay k to) m = comes to m (recorded w k) w
acts w (inject to bytes read) m = comes to m read w
acts w (timeout r) m = steps r m timeout_in w
acts w (beat r) m = steps r m beat_in w
acts w (prune r height) m = steps r m (prune_in height) w
acts w (offer to source) m = offers to m (frame_of w source) w
acts w (gather to sources) m = on_checked to m (check_gathered (self_of w to) (frames_of w sources)) w
acts w (lead r d) m = steps r m (lead_in d) w
acts w (ask r to d) m = steps r m (ask_in to d) w

-- an event that names a faulty party changes nothing
unfoldable pub effect : World → Happening → Effect
effect w h = if w.is_faulty (party_of h.0) then nothing w None else acts w h.0 h.1

-- the client of an event
abbrev pub client_number : Event → ℕ
client_number e = client_at (party_of e)

-- the world after an event
unfoldable pub happens : World → Happening → World
happens w h = record {
  sizes = w.sizes;
  is_faulty = w.is_faulty;
  ring = w.ring;
  replica = (effect w h).replica;
  session = (effect w h).session;
  sent =
      w.sent
      ++ map (λ o. record { event = w.now; sender = party_of h.0; to = o.0; frame = o.1 }) (effect w h).out;
  receipts =
      map (λ r. record { event = w.now; client = client_number h.0; receipt = r }) (effect w h).accepted
      ++ w.receipts;
  answers = (effect w h).answer ∷ w.answers;
  now = suc w.now;
}
