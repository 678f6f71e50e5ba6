-- A client that waits sent the request of its number.
use Rattle.std.proofs.Common.{ℕ, ◌≡◌, true, List, [], ◌++◌, refl, sym, subst}
use Rattle.std.proofs.Common.{inl, None}
use Rattle.ids.specs.Sizes.{client_party}
use Rattle.definitions.specs.Bytes.{Bytes}
use Rattle.definitions.specs.Lists.{Among}
use Rattle.definitions.specs.Frames.{Command, Frame, reply_content}
use Rattle.definitions.specs.Frames as frame
use Rattle.definitions.specs.Keyrings.{client_at}
use Rattle.definitions.specs.Replicas.{MemorySupply}
use Rattle.definitions.specs.Sessions.{Session, Submitted, on_reply, submission}
use Rattle.definitions.specs.Worlds.{World, Sent, Event, Happening, client_of}
use Rattle.definitions.specs.Runs.{refusal}
use Rattle.definitions.specs.Events.{Effect, party_of, effect, happens, nothing, stepped, told, submitted}
use Rattle.definitions.specs.Events.{submitted_out}
use Rattle.definitions.proofs.Lists.{Among-before, Among-after}
use Rattle.linear_law.proofs.Accounts.{put-session, on_reply-used, submit-party}
use Rattle.linear_law.proofs.Effects.{ComesFramed, Effects, Effects.idle, Effects.step_by, Effects.hearing}
use Rattle.linear_law.proofs.Effects.{Effects.submitting, effects}
use Rattle.linear_law.proofs.Submissions.{IsAsked, IsAsked.kept, IsAsked.given, submission-asked, on_reply-heard}
use Rattle.recovery.proofs.Steps.{outs}

-- a request of this number stands in the record, from this client
abbrev pub HasRequest : List Sent → ℕ → ℕ → Type 0
HasRequest sent cl seq =
    (s : Sent) × (c : Command) × Among s sent × (s.sender ≡ client_party cl) × (s.frame ≡ frame.request c)
    × (c.seq ≡ seq)

-- so it does where the client waits
abbrev pub HasAsked : List Sent → ℕ → Session → Type 0
HasAsked sent cl s = s.waiting ≡ true → HasRequest sent cl s.used

abbrev pub HaveAsked : World → Type 0
HaveAsked w = (cl : ℕ) → HasAsked w.sent cl (w.session cl)

asked-more : (xs ys : List Sent) (cl : ℕ) (s : Session) → HasAsked xs cl s → HasAsked (xs ++ ys) cl s
asked-more xs ys cl s h = λ w. (let r = h w in (r.0, r.1, Among-before r.0 xs ys r.2, r.3, r.4, r.5))

-- a submission sends it
submitted-asked : (w : World) (p c : ℕ) (payload : Bytes) (s : Session) (x : Session × Submitted)
    → IsAsked (client_of w c) payload s x → p ≡ client_party c → HasAsked w.sent c s
    → HasAsked (w.sent ++ outs w p (submitted_out x.1)) c x.0
submitted-asked w p c payload s x (kept n) by h = asked-more w.sent [] c s h
submitted-asked w p c payload s x given by h = λ t.
    (_, _, Among-after _ w.sent _ (inl refl), by, refl, refl)

effect-asked : (w : World) (e : Event) (m : MemorySupply) (f : Effect) → HaveAsked w → Effects w e m f → (cl : ℕ)
    → HasAsked (w.sent ++ outs w (party_of e) f.out) cl (f.session cl)
unfolding nothing stepped told submitted
effect-asked w e m f h (idle a n) cl = asked-more w.sent _ cl (w.session cl) (h cl)
effect-asked w e m f h (step_by i me ar) cl = asked-more w.sent _ cl (w.session cl) (h cl)
effect-asked w e m f h (hearing x b a n k l) cl =
    let me : ℕ = client_at (party_of e) in
    let r = on_reply (client_of w me) m x (w.session me) in
    put-session me r.0 w.session (λ (s : Session). HasAsked (w.sent ++ outs w (party_of e) []) cl s) cl
    (λ i. subst (λ (j : ℕ). HasAsked (w.sent ++ outs w (party_of e) []) j r.0) (sym i)
    (λ t. subst (HasRequest (w.sent ++ outs w (party_of e) []) me)
    (sym (on_reply-used (client_of w me) m x (w.session me)))
    (asked-more w.sent [] me (w.session me) (h me) ((on_reply-heard (client_of w me) m x (w.session me)).waits t))))
    (asked-more w.sent [] cl (w.session cl) (h cl))
effect-asked w e m f h (submitting c payload n k) cl =
    let x = submission (client_of w c) m payload (w.session c) in
    put-session c x.0 w.session (λ (s : Session). HasAsked (w.sent ++ outs w (party_of e) (submitted_out x.1)) cl s) cl
    (λ i. subst (λ (j : ℕ). HasAsked (w.sent ++ outs w (party_of e) (submitted_out x.1)) j x.0) (sym i)
    (submitted-asked w (party_of e) c payload (w.session c) x (submission-asked (client_of w c) m payload (w.session c))
    (submit-party e c payload n) (h c)))
    (asked-more w.sent _ cl (w.session cl) (h cl))

-- an event leaves it so
pub happens-asked : (w : World) (h : Happening) → ComesFramed w h.0 → refusal w h.0 ≡ None → HaveAsked w
    → HaveAsked (happens w h)
unfolding happens
happens-asked w h framed ok all cl = effect-asked w h.0 h.1 (effect w h) all (effects w h.0 h.1 framed ok) cl
