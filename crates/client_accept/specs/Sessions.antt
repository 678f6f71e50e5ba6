-- A session for its callers, and what its calls answer.
use Rattle.ids.specs.declared.fault.Fault.{Fault}
use Rattle.ids.specs.declared.fault.Fault.TheVariants as fault
use Rattle.ids.specs.declared.kind.Kind.TheVariants as kind
use Rattle.std.specs.Prelude.{◌≡◌, ℕ, suc, ◌-◌, ◌^◌, ◌==◌, ◌&&◌, not, if◌then◌else◌, nat_le, Option, Some}
use Rattle.std.specs.Prelude.{None, Result, Ok, Err, Vec}
use Rattle.std.specs.declared.alloc.Global.{Global}
use Rattle.definitions.specs.Bytes.{Bytes}
use Rattle.definitions.specs.Tally.{is_counted, agreeing}
use Rattle.definitions.specs.Frames.{Frame, spelling, reply_content}
use Rattle.definitions.specs.Frames as frame
use Rattle.definitions.specs.Keyrings.{Keys, verify}
use Rattle.definitions.specs.Replicas.{MemorySupply, ample, refused_at_once}
use Rattle.definitions.specs.Sessions.{Client, Session, Receipt, Submitted, sent_request, not_sent, Heard}
use Rattle.definitions.specs.Sessions.{gives_receipt, only_counts, not_counted}

-- A session: the client's keys, its state, and the bytes of its last request.
pub record Held : Type 0 where
  pub keys : Keys
  pub session : Session
  pub frame : Bytes

-- ---- what answers mean

-- how a call met the allocator, by its answer
abbrev pub memory_of : {T : Type 0} → Result T Fault → MemorySupply
memory_of (Ok x) = ample
memory_of (Err fault.Memory) = refused_at_once
memory_of (Err n) = ample

-- the answer to a submission: the bytes of the frame that is sent, or the refusal
abbrev pub IsSubmitted : Submitted → Result (Vec ℕ Global) Fault → Type 0
IsSubmitted (sent_request f) (Ok bytes) = bytes.items ≡ spelling f
IsSubmitted (sent_request f) (Err n) = ⊥
IsSubmitted (not_sent m) (Ok bytes) = ⊥
IsSubmitted (not_sent m) (Err n) = n ≡ m

-- the answer to a submission whose frame is not handed out: the bytes of the last request are those of the
-- frame that is sent, or as they were before the refusal
abbrev pub IsSubmittedInto : Submitted → Bytes → Result (Unit {0}) Fault → Bytes → Type 0
IsSubmittedInto (sent_request f) old (Ok done) new = new ≡ spelling f
IsSubmittedInto (sent_request f) old (Err n) new = ⊥
IsSubmittedInto (not_sent m) old (Ok done) new = ⊥
IsSubmittedInto (not_sent m) old (Err n) new = (n ≡ m) × (new ≡ old)

-- the bytes of the last request, after one more answer
abbrev pub frame_after : Bytes → Result (Vec ℕ Global) Fault → Bytes
frame_after old (Ok bytes) = bytes.items
frame_after old (Err n) = old

-- what a reply came to, by the answer
abbrev pub heard_of : Result (Option Receipt) Fault → Heard
heard_of (Ok (Some r)) = gives_receipt r
heard_of (Ok None) = only_counts
heard_of (Err n) = not_counted n

-- ---- what is found before anything changes

-- the number of the next request, where there may be one
abbrev pub next_seq : Session → Result ℕ Fault
next_seq s = if s.waiting then Err fault.Busy else
    (if s.used == (2 ^ 64 - 1) then Err fault.Spent else Ok (suc s.used))

-- whether a reply is counted
abbrev pub admission : Client → Frame → Session → Result (Unit {0}) Fault
admission me (frame.reply replica client seq place text t) s =
    if not (client == me.number) then Err fault.NotMine
    else (if not (verify me.ring kind.Reply replica (reply_content replica client seq place text) t) then
    Err fault.BadTag
    else (if not (s.waiting && (seq == s.used)) then Err fault.WrongSeq
    else (if is_counted s.tally replica then Err fault.Doubled
    else Ok tt)))
admission me f s = Err fault.NotMine

-- the receipt, where with one more that tells this more than f agree
abbrev pub receipt_at : ℕ → ℕ → Bytes → Session → Option Receipt
receipt_at faults place text s =
    if nat_le faults (agreeing s.tally place text) then Some
    (record { seq = s.used; place = place; text = text }) else None
