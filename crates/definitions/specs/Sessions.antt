-- A client's session: which request is outstanding, and what each replica told of it.
use Rattle.ids.specs.declared.kind.Kind.TheVariants as kind
use Rattle.ids.specs.declared.fault.Fault.{Fault}
use Rattle.ids.specs.declared.fault.Fault.TheVariants as fault
use Rattle.std.specs.Prelude.{ℕ, suc, ◌-◌, ◌^◌, ◌==◌, ◌&&◌, not, Bool, true, false, List, [], ◌∷◌}
use Rattle.std.specs.Prelude.{if◌then◌else◌, nat_lt, ◌++◌}
use Rattle.definitions.specs.Bytes.{Bytes}
use Rattle.definitions.specs.Tally.{Told, is_counted, agreeing}
use Rattle.ids.specs.Sizes.{Sizes}
use Rattle.definitions.specs.Frames.{Frame, command_content, reply_content}
use Rattle.definitions.specs.Keyrings.{Keyring, verify, vector_for}
use Rattle.definitions.specs.Replicas.{MemorySupply, MemorySupply.ample, MemorySupply.refused_at_once}
use Rattle.definitions.specs.Replicas.{MemorySupply.refused_after}
use Rattle.definitions.specs.Frames as frame

-- Who a client is. Its party is its keyring's.
pub record Client : Type 0 where
  pub sizes : Sizes
  pub number : ℕ
  pub ring : Keyring

-- the state of a client
pub record Session : Type 0 where
  pub used : ℕ  -- the last seq that was given
  pub waiting : Bool  -- it is outstanding
  pub tally : List Told  -- one a replica

-- the session of a client that goes on behind this number: the next one is above it, and nothing is outstanding
abbrev pub session_behind : ℕ → Session
session_behind seq = record { used = seq; waiting = false; tally = [] }

-- the session at the start
abbrev pub new_session : Session
new_session = session_behind 0

-- what a client accepted
pub record Receipt : Type 0 where
  pub seq : ℕ
  pub place : ℕ
  pub text : Bytes

-- what a submission comes to
pub data Submitted : Type 0 where
  sent_request : Frame → Submitted
  not_sent : Fault → Submitted

-- the frame of a request
unfoldable pub request_frame : Client → ℕ → Bytes → Frame
request_frame me seq payload = frame.request (record {
  client = me.number;
  seq = seq;
  payload = payload;
  vector = vector_for me.sizes me.ring kind.Request (command_content me.number seq payload);
})

-- no memory is refused
abbrev pub is_ample : MemorySupply → Bool
is_ample ample = true
is_ample refused_at_once = false
is_ample (refused_after k) = false

-- a new request, where none is outstanding
unfoldable pub submission : Client → MemorySupply → Bytes → Session → Session × Submitted
submission me m payload s =
    if s.waiting then (s, not_sent fault.Busy)
    else (if s.used == (2 ^ 64 - 1) then (s, not_sent fault.Spent)
    else (if not (is_ample m) then (s, not_sent fault.Memory)
    else (
      record { used = suc s.used; waiting = true; tally = [] },
      sent_request (request_frame me (suc s.used) payload),
    )))

-- what a reply comes to
pub data Heard : Type 0 where
  gives_receipt : Receipt → Heard
  only_counts : Heard
  not_counted : Fault → Heard

-- a reply of this seq, place and text was counted for the replica
unfoldable pub count_reply : Client → Told → Session → Session × Heard
count_reply me t s =
    if nat_lt me.sizes.faults (agreeing (t ∷ s.tally) t.place t.text)
    then (
      record { used = s.used; waiting = false; tally = t ∷ s.tally },
      gives_receipt (record { seq = s.used; place = t.place; text = t.text }),
    )
    else (record { used = s.used; waiting = true; tally = t ∷ s.tally }, only_counts)

-- a frame comes to a client
unfoldable pub on_reply : Client → MemorySupply → Frame → Session → Session × Heard
on_reply me m (frame.reply replica client seq place text t) s =
    if not (client == me.number) then (s, not_counted fault.NotMine)
    else (if not (verify me.ring kind.Reply replica (reply_content replica client seq place text) t)
    then (s, not_counted fault.BadTag)
    else (if not (s.waiting && (seq == s.used)) then (s, not_counted fault.WrongSeq)
    else (if is_counted s.tally replica then (s, not_counted fault.Doubled)
    else (if not (is_ample m) then (s, not_counted fault.Memory)
    else count_reply me (record { replica = replica; place = place; text = text }) s))))
on_reply me m f s = (s, not_counted fault.NotMine)

-- ---- a client's life

-- what a client does: it submits a payload, or hears a frame
pub data Doing : Type 0 where
  submitting : MemorySupply → Bytes → Doing
  hearing : MemorySupply → Frame → Doing

-- its session afterwards
abbrev pub session_after : Client → Doing → Session → Session
session_after me (submitting m payload) s = (submission me m payload s).0
session_after me (hearing m f) s = (on_reply me m f s).0

-- the frame that goes out, if any
abbrev pub sent_by : Submitted → List Frame
sent_by (sent_request f) = f ∷ []
sent_by (not_sent n) = []

-- the request that it sends, if any
abbrev pub requests_in : Client → Doing → Session → List Frame
requests_in me (submitting m payload) s = sent_by (submission me m payload s).1
requests_in me (hearing m f) s = []

-- its session after all that it does, the first thing first
abbrev pub session_at_end : Client → List Doing → Session → Session
session_at_end me [] s = s
session_at_end me (d ∷ ds) s = session_at_end me ds (session_after me d s)

-- the requests that it sends meanwhile
abbrev pub requests_of : Client → List Doing → Session → List Frame
requests_of me [] s = []
requests_of me (d ∷ ds) s = requests_in me d s ++ requests_of me ds (session_after me d s)
