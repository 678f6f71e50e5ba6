-- A party as a process of its own: what comes to it, and what its own step makes of that. No world is spoken of.
use Rattle.ids.specs.declared.fault.Fault.TheVariants as fault
use Rattle.std.specs.Prelude.{List, [], ◌∷◌, ◌++◌, Option, Some, None}
use Rattle.definitions.specs.Admission.{Checked, passes, rejected, check, check_offer, check_gathered}
use Rattle.definitions.specs.Checks.{Identity}
use Rattle.definitions.specs.Events.{out_of, accepted_of, submitted_out, listed}
use Rattle.definitions.specs.Frames.{Frame}
use Rattle.definitions.specs.Replicas.{MemorySupply, Replica, Reaction, step}
use Rattle.definitions.specs.Rulings.{Input.timeout_in, Input.beat_in, Input.prune_in, Input.lead_in, Input.ask_in}
use Rattle.definitions.specs.Sendings.{Sending}
use Rattle.definitions.specs.Sessions.{Client, Session, Receipt, Submitted, Heard, submission, on_reply}
use Rattle.definitions.specs.Worlds.{Source, of_record, of_bytes, Event, Happening, submit, relay, inject, timeout}
use Rattle.definitions.specs.Worlds.{beat, prune, offer, gather, lead, ask}

-- What a process did over some events: its state after them, what it sent, oldest first, and what it accepted, newest
-- first.
pub record Deeds (S : Type 0) : Type 0 where
  pub state : S
  pub sent : List Sending
  pub accepted : List Receipt

-- nothing
abbrev pub no_deeds : {S : Type 0} → S → Deeds S
no_deeds s = record { state = s; sent = []; accepted = [] }

-- those of later events behind those of earlier ones
abbrev pub and_then : {S : Type 0} → Deeds S → Deeds S → Deeds S
and_then earlier later = record {
  state = later.state;
  sent = earlier.sent ++ later.sent;
  accepted = later.accepted ++ earlier.accepted;
}

-- A local run: a process takes these events, the first one first, by its own step alone.
unfoldable pub alone : {S : Type 0} → (Happening → S → Deeds S) → List Happening → S → Deeds S
alone step [] s = no_deeds s
alone step (h ∷ hs) s = and_then (step h s) (alone step hs (step h s).state)

-- ---- what comes

-- The frame that bytes are read as. A process has no record of what others sent: nothing comes to it from there.
abbrev pub read_from : Source → Option Frame
read_from (of_record k) = None
read_from (of_bytes bytes read) = read

-- those of several; bytes that are no frame are left out
abbrev pub all_read : List Source → List Frame
all_read [] = []
all_read (s ∷ ss) = listed (read_from s) ++ all_read ss

-- bytes are checked by this test; those that are no frame are rejected
abbrev pub checked_by : (Frame → Checked) → Option Frame → Checked
checked_by test None = rejected fault.NotAFrame
checked_by test (Some f) = test f

-- ---- a replica's process

-- the input that an event is, or why it is none
unfoldable pub input_of : Identity → Event → Checked
input_of self (inject to bytes read) = checked_by (check self) read
input_of self (offer to source) = checked_by (check_offer self) (read_from source)
input_of self (gather to sources) = check_gathered self (all_read sources)
input_of self (timeout r) = passes timeout_in
input_of self (beat r) = passes beat_in
input_of self (prune r height) = passes (prune_in height)
input_of self (lead r d) = passes (lead_in d)
input_of self (ask r to d) = passes (ask_in to d)
input_of self (submit c payload) = rejected fault.NotMine
input_of self (relay k to) = rejected fault.NotAFrame

-- it reacted, and what that sends goes out
abbrev pub reacted : Identity → MemorySupply → Replica × Reaction → Deeds Replica
reacted self m r = record { state = r.0; sent = out_of self m r.1; accepted = [] }

-- an input is for its step; what is rejected changes nothing
abbrev pub takes : Identity → MemorySupply → Checked → Replica → Deeds Replica
takes self m (passes i) r = reacted self m (step self m i r)
takes self m (rejected n) r = no_deeds r

-- one event
abbrev pub replica_step : Identity → Happening → Replica → Deeds Replica
replica_step self h = takes self h.1 (input_of self h.0)

-- ---- a client's process

-- it submitted, and its request goes out
abbrev pub asked : Session × Submitted → Deeds Session
asked r = record { state = r.0; sent = submitted_out r.1; accepted = [] }

-- it heard a frame, and may accept
abbrev pub heard : Session × Heard → Deeds Session
heard r = record { state = r.0; sent = []; accepted = accepted_of r.1 }

-- what an event makes of its session: it takes a payload, or a frame
unfoldable pub session_step : Client → Event → MemorySupply → Session → Deeds Session
session_step me (submit c payload) m s = asked (submission me m payload s)
session_step me (inject to bytes (Some f)) m s = heard (on_reply me m f s)
session_step me e m s = no_deeds s

-- one event
abbrev pub client_step : Client → Happening → Session → Deeds Session
client_step me h = session_step me h.0 h.1
