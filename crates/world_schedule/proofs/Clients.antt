-- What a client's session answers is what the definitions' client does.
use Rattle.ids.specs.declared.fault.Fault.{Fault}
use Rattle.ids.specs.declared.fault.Fault.TheVariants as fault
use Rattle.ids.specs.declared.kind.Kind.TheVariants as kind
use Rattle.std.proofs.Common.{ℕ, false, IfOk, ◌≡◌, [], ◌∷◌, map, refl, sym, ap, subst, ◌∙◌, Some, None}
use Rattle.std.proofs.Common.{Result, Ok, Err}
use Rattle.std.proofs.lemmas.Bool.{cond_both}
use Rattle.std.specs.Prelude.{⊤, Vec, ◌-◌, ◌^◌, ◌==◌, not}
use Rattle.std.specs.declared.alloc.Global.{Global}
use Rattle.ids.specs.Sizes.{Sizes}
use Rattle.definitions.specs.Bytes.{Bytes}
use Rattle.definitions.specs.FrameLimits.{IsReadAs}
use Rattle.definitions.specs.Frames.{kind_of}
use Rattle.definitions.specs.Replicas.{MemorySupply, ample}
use Rattle.frames_view.specs.declared.frame_views.Frame as views
use Rattle.frames_view.specs.declared.frame_views.Frame.TheVariants as view
use Rattle.frames_view.specs.declared.frame_views.ReplyView.{ReplyView}
use Rattle.frames_view.specs.Views.{frame_of}
use Rattle.world_schedule.specs.Hearing.{HearsAs}
use Rattle.definitions.specs.Requests.{Asked, IsRequest, canonical}
use Rattle.definitions.specs.Canonical.{request_of}
use Rattle.definitions.specs.Sendings.{To.to_all}
use Rattle.definitions.specs.Sessions.{Client, Session, Heard, not_counted, on_reply, Submitted}
use Rattle.definitions.specs.Sessions.{Submitted.sent_request, Submitted.not_sent, submission}
use Rattle.definitions.specs.Sessions.{is_ample, request_frame}
use Rattle.definitions.specs.Events.{submitted_out, submitted_answer}
use Rattle.definitions.proofs.RequestTexts.{request_of_some}
use Rattle.signed_frames.specs.Clients.{client_of}
use Rattle.replica.specs.Steps.{shown}
use Rattle.signed_frames.specs.Outs.{sent_of}
use Rattle.client_accept.specs.Sessions.{Held, memory_of, IsSubmitted, frame_after}
use Rattle.world_schedule.specs.declared.effect.Effect.{Effect}
use Rattle.world_schedule.specs.Turns.{Submits}

-- what is read of a payload is a request
pub is-request : (payload : Bytes) (r : Asked) → request_of payload ≡ Some r → IsRequest r false
is-request payload r e = (request_of_some payload r e).0

-- and it is the payload
pub is-payload : (payload : Bytes) (r : Asked) → request_of payload ≡ Some r → canonical r ≡ payload
is-payload payload r e = sym (request_of_some payload r e).1

-- what a session's call left and answered
pub record Called (old new : Held) (text : Bytes) (result : Result (Vec ℕ Global) Fault) : Type 0 where
  pub state : new
      ≡ record old {
        session = (submission (client_of old.keys) (memory_of result) text old.session).0;
        frame = frame_after old.frame result;
      }
  pub answer : IsSubmitted (submission (client_of old.keys) (memory_of result) text old.session).1 result

-- a session sends requests alone
abbrev IsRequestSent : Submitted → Type 0
IsRequestSent (sent_request f) = kind_of f ≡ kind.Request
IsRequestSent (not_sent n) = ⊤

request-sent : (me : Client) (m : MemorySupply) (payload : Bytes) (s : Session)
    → IsRequestSent (submission me m payload s).1
unfolding submission request_frame
request-sent me m payload s =
    cond_both s.waiting _ _ Sends (λ e. tt)
    (λ e. cond_both (s.used == (2 ^ 64 - 1)) _ _ Sends (λ e. tt)
    (λ e. cond_both (not (is_ample m)) _ _ Sends (λ e. tt) (λ e. refl)))
  where
    Sends : Session × Submitted → Type 0
    Sends x = IsRequestSent x.1

-- a frame that is sent
pub sent-submitted : (old new : Held) (text payload : Bytes) (bytes : Vec ℕ Global) (e : Effect)
    → text ≡ payload → Called old new text (Ok bytes)
    → map sent_of e.out.items ≡ (to_all, kind.Request, bytes.items) ∷ [] → e.accepted ≡ None → e.answer ≡ None
    → Submits old payload new e
sent-submitted old new text payload bytes e is c out accepted answer =
    let m = memory_of {T = Vec ℕ Global} (Ok bytes) in
    let told = by (submission (client_of old.keys) m text old.session).1
    (request-sent (client_of old.keys) m text old.session) c.answer in
    subst (λ (t : Bytes). Submits old t new e) is (record {
      keys = ap (λ (h : Held). h.keys) c.state;
      memory = memory_of {T = Vec ℕ Global} (Ok bytes);
      state = ap (λ (h : Held). h.session) c.state;
      out = told.0;
      accepted = accepted;
      answer = told.1;
    })
  where
    by : (x : Submitted) → IsRequestSent x → IsSubmitted x (Ok bytes)
        → (map sent_of e.out.items ≡ shown (submitted_out x)) × (e.answer ≡ submitted_answer x)
    by (sent_request f) is h = (out ∙ (λ i. (to_all, sym is i, h i) ∷ []), answer)
    by (not_sent n) is h = absurd h

-- a refusal
pub refused-submitted : (old new : Held) (text payload : Bytes) (n : Fault) (e : Effect) → text ≡ payload
    → Called old new text (Err n)
    → e.out.items ≡ [] → e.accepted ≡ None → e.answer ≡ Some n → Submits old payload new e
refused-submitted old new text payload n e is c out accepted answer =
    subst (λ (t : Bytes). Submits old t new e) is (record {
      keys = ap (λ (h : Held). h.keys) c.state;
      memory = memory_of {T = Vec ℕ Global} (Err n);
      state = ap (λ (h : Held). h.session) c.state;
      out = (by (submission (client_of old.keys) (memory_of {T = Vec ℕ Global} (Err n)) text old.session).1
          c.answer).0;
      accepted = accepted;
      answer = (by
          (submission (client_of old.keys) (memory_of {T = Vec ℕ Global} (Err n)) text old.session).1
          c.answer).1;
    })
  where
    by : (x : Submitted) → IsSubmitted x (Err n)
        → (map sent_of e.out.items ≡ shown (submitted_out x)) × (e.answer ≡ submitted_answer x)
    by (sent_request f) h = absurd h
    by (not_sent m) h = (ap (map sent_of) out, answer ∙ ap Some h)

-- where there is an effect
pub sent-if : (old new : Held) (text payload : Bytes) (bytes : Vec ℕ Global) (r : Result Effect Fault)
    → text ≡ payload → Called old new text (Ok bytes)
    → IfOk r (λ e. map sent_of e.out.items ≡ (to_all, kind.Request, bytes.items) ∷ []) → IfOk r (λ e. e.accepted ≡ None)
    → IfOk r (λ e. e.answer ≡ None) → IfOk r (λ e. Submits old payload new e)
sent-if old new text payload bytes (Ok e) is c out accepted answer =
    sent-submitted old new text payload bytes e is c out accepted answer
sent-if old new text payload bytes (Err n) is c out accepted answer = tt

-- ---- frames of other kinds

-- a client takes replies alone
other-heard : (me : Client) (f : views.Frame) (x : Session) → ((r : ReplyView) → f ≡ view.Reply r → ⊥)
    → on_reply me ample (frame_of f) x ≡ (x, not_counted fault.NotMine)
unfolding on_reply
other-heard me (view.Request v) x apart = refl
other-heard me (view.Proposal v) x apart = refl
other-heard me (view.Vote v) x apart = refl
other-heard me (view.NewView v) x apart = refl
other-heard me (view.Fetch v) x apart = refl
other-heard me (view.Block v) x apart = refl
other-heard me (view.Reply v) x apart = absurd (apart v refl)

pub other-refused : (old : Held) (bytes : Bytes) (sizes : Sizes) (f : views.Frame)
    → ((r : ReplyView) → f ≡ view.Reply r → ⊥) → sizes ≡ old.keys.sizes
    → IsReadAs sizes bytes (Some (frame_of f)) → HearsAs old bytes old (Err fault.NotMine)
other-refused old bytes sizes f apart same rd =
    let e = other-heard (client_of old.keys) f old.session apart in
    record {
      keys = refl;
      read = Some (frame_of f);
      is_read = subst (λ (z : Sizes). IsReadAs z bytes (Some (frame_of f))) same rd;
      memory = ample;
      state = ap (λ (x : Session × Heard). x.0) (sym e);
      answer = ap (λ (x : Session × Heard). x.1) (sym e);
    }
