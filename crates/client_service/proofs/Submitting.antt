-- Submissions.
use Rattle.std.proofs.Common.{suc, ◌-◌, ◌^◌, ◌==◌, Bool, true, false, not, if◌then◌else◌, Ok, Err}
use Rattle.std.proofs.Common.{inr, ◌≡◌, [], Option, Some, None, refl, sym, ◌∙◌, ap}
use Rattle.ids.specs.declared.fault.Fault.{Fault}
use Rattle.ids.specs.declared.fault.Fault.TheVariants as fault
use Rattle.definitions.specs.Bytes.{Bytes}
use Rattle.definitions.specs.Canonical.{is_canonical}
use Rattle.mc_lines.proofs.Canonicals.{spells}
use Rattle.definitions.specs.Frames.{Frame, spelling}
use Rattle.definitions.specs.Keyrings.{Keys}
use Rattle.definitions.specs.Replicas.{MemorySupply}
use Rattle.definitions.specs.Sessions.{Client, Session, Receipt, Submitted, sent_request, not_sent}
use Rattle.definitions.specs.Sessions.{is_ample, request_frame, submission}
use Rattle.signed_frames.specs.Clients.{client_of}
use Rattle.client_accept.specs.Sessions.{Held, IsSubmittedInto}
use Rattle.client_service.specs.Links.{Traffic}
use Rattle.client_service.specs.Calls.{IsSubmittedFor, Asks, IsAsked}

-- a session that is the same in each part is the same
same_held : (old new : Held) → new.keys ≡ old.keys → new.session ≡ old.session → new.frame ≡ old.frame → new ≡ old
same_held old new k s f =
    ap (λ (x : Keys). record { keys = x; session = new.session; frame = new.frame }) k
    ∙ (ap (λ (x : Session). record { keys = old.keys; session = x; frame = new.frame }) s
    ∙ ap (λ (x : Bytes). record { keys = old.keys; session = old.session; frame = x }) f)

-- the tests of a submission, and what comes after them
abbrev three_tests : Session → Session × Submitted → (a b c : Bool) → Session × Submitted
three_tests s sent a b c = if a then (s, not_sent fault.Busy) else
    (if b then (s, not_sent fault.Spent) else (if c then (s, not_sent fault.Memory) else sent))

three_stay : (s sent_state : Session) (frame : Frame) (n : Fault) (a b c : Bool)
    → (three_tests s (sent_state, sent_request frame) a b c).1 ≡ not_sent n
    → (three_tests s (sent_state, sent_request frame) a b c).0 ≡ s
three_stay s sent_state frame n true b c e = refl
three_stay s sent_state frame n false true c e = refl
three_stay s sent_state frame n false false true e = refl
three_stay s sent_state frame n false false false e = absurd cc

three_wait : (s sent_state : Session) (frame : Frame) (old new : Bytes) (a b c : Bool)
    → sent_state.waiting ≡ true
    → IsSubmittedInto (three_tests s (sent_state, sent_request frame) a b c).1 old (Ok tt) new
    → (three_tests s (sent_state, sent_request frame) a b c).0.waiting ≡ true
three_wait s sent_state frame old new true b c waits is = absurd is
three_wait s sent_state frame old new false true c waits is = absurd is
three_wait s sent_state frame old new false false true waits is = absurd is
three_wait s sent_state frame old new false false false waits is = waits

-- where a submission is refused, the session stays
refused_stays : (me : Client) (m : MemorySupply) (payload : Bytes) (s : Session) (n : Fault)
    → (submission me m payload s).1 ≡ not_sent n → (submission me m payload s).0 ≡ s
unfolding submission
refused_stays me m payload s n =
    three_stay s (record { used = suc s.used; waiting = true; tally = [] })
    (request_frame me (suc s.used) payload) n s.waiting (s.used == (2 ^ 64 - 1)) (not (is_ample m))

-- where it isn't, the session waits
submitted_waits : (me : Client) (m : MemorySupply) (payload : Bytes) (s : Session) (old new : Bytes)
    → IsSubmittedInto (submission me m payload s).1 old (Ok tt) new → (submission me m payload s).0.waiting ≡ true
unfolding submission
submitted_waits me m payload s old new =
    three_wait s (record { used = suc s.used; waiting = true; tally = [] })
    (request_frame me (suc s.used) payload) old new s.waiting (s.used == (2 ^ 64 - 1)) (not (is_ample m)) refl

-- what a submission's answer says of it
sent_by : (p : Session × Submitted) (old new : Bytes) → IsSubmittedInto p.1 old (Ok tt) new
    → (frame : Frame) × (p ≡ (p.0, sent_request frame)) × (new ≡ spelling frame)
sent_by (s, sent_request frame) old new is = (frame, refl, is)
sent_by (s, not_sent n) old new is = absurd is

not_sent_by : (p : Session × Submitted) (n : Fault) (old new : Bytes) → IsSubmittedInto p.1 old (Err n) new
    → (m : Fault) × (p.1 ≡ not_sent m) × (new ≡ old)
not_sent_by (s, sent_request frame) n old new is = absurd is
not_sent_by (s, not_sent m) n old new is = (m, refl, is.1)

pub begun_waits : (old begun : Held) (m : MemorySupply) (payload : Bytes)
    → begun.session ≡ (submission (client_of old.keys) m payload old.session).0
    → IsSubmittedInto (submission (client_of old.keys) m payload old.session).1 old.frame (Ok tt) begun.frame
    → begun.session.waiting ≡ true
begun_waits old begun m payload state answer =
    ap (λ s. s.waiting) state
    ∙ submitted_waits (client_of old.keys) m payload old.session old.frame begun.frame answer

pub submitted_for : (old begun : Held) (m : MemorySupply) (payload : Bytes) → is_canonical payload ≡ true
    → begun.keys ≡ old.keys
    → begun.session ≡ (submission (client_of old.keys) m payload old.session).0
    → IsSubmittedInto (submission (client_of old.keys) m payload old.session).1 old.frame (Ok tt) begun.frame
    → IsSubmittedFor old payload begun
submitted_for old begun m payload canonical keys state answer =
    let spelt = spells payload canonical in
    let sent = sent_by (submission (client_of old.keys) m payload old.session) old.frame begun.frame answer in
    record {
      request = spelt.0;
      payload_is = spelt.1;
      memory = m;
      frame = sent.0;
      is = sent.1 ∙ ap (λ (s : Session). (s, sent_request sent.0)) (sym state);
      keys = keys;
      bytes = sent.2;
    }

pub asked : {L : Type 0} (carries : L → Traffic → L → Type 0) (old new : Held × L) (begun : Held)
    (payload : Bytes) (r : Option Receipt) → IsSubmittedFor old.0 payload begun
    → Asks carries (begun, old.1) r new → IsAsked carries old payload r new
asked carries old new begun payload (Some r) submitted asks = (begun, submitted, asks)
asked carries old new begun payload None submitted asks = inr (begun, submitted, asks)

pub not_asked : (old begun : Held) (m : MemorySupply) (payload : Bytes) (n : Fault) → begun.keys ≡ old.keys
    → begun.session ≡ (submission (client_of old.keys) m payload old.session).0
    → IsSubmittedInto (submission (client_of old.keys) m payload old.session).1 old.frame (Err n) begun.frame
    → begun ≡ old
not_asked old begun m payload n keys state answer =
    let refused = not_sent_by (submission (client_of old.keys) m payload old.session) n old.frame begun.frame
    answer in
    let stays = refused_stays (client_of old.keys) m payload old.session refused.0 refused.1 in
    same_held old begun keys (state ∙ stays) refused.2
