-- A request that was sent is one that a client makes with its keys.
use Rattle.std.proofs.Common.{ℕ, suc, ◌≡◌, List, refl, sym, ap, subst, ◌∙◌, inl, inr}
use Rattle.std.proofs.Common.{None, ◌<◌, arith}
use Rattle.ids.specs.Sizes.{client_party}
use Rattle.definitions.specs.Bytes.{Bytes}
use Rattle.definitions.specs.Lists.{Among}
use Rattle.definitions.specs.Frames.{Command, Core, Frame}
use Rattle.definitions.specs.Frames as frame
use Rattle.definitions.specs.Replicas.{MemorySupply}
use Rattle.definitions.specs.Rulings.{ruling}
use Rattle.definitions.specs.Sendings.{Sending}
use Rattle.definitions.specs.Sessions.{Client, Session, Submitted}
use Rattle.definitions.specs.Worlds.{World, Sent, Event, Happening, self_of, client_of}
use Rattle.definitions.specs.Runs.{refusal}
use Rattle.definitions.specs.Events.{Effect, party_of, effect, happens, nothing, stepped, told, submitted}
use Rattle.definitions.specs.Events.{submitted_out}
use Rattle.definitions.proofs.Lists.{Among-either, Among-map}
use Rattle.definitions.proofs.Sound.{step-outcome}
use Rattle.linear_law.proofs.Accounts.{outcome-not, submit-party}
use Rattle.linear_law.proofs.Effects.{ComesFramed, Effects, Effects.idle, Effects.step_by, Effects.hearing}
use Rattle.linear_law.proofs.Effects.{Effects.submitting, effects}
use Rattle.linear_law.proofs.Final.{same-client}
use Rattle.linear_law.proofs.Runs.{arises-checked}
use Rattle.linear_law.proofs.Submissions.{asked, IsAsked, IsAsked.kept, IsAsked.given, submission-asked, same-command}
use Rattle.linear_law.proofs.WholeRuns.{IsWell}
use Rattle.recovery.proofs.Steps.{outs}

-- the client makes this command with its keys, by a number that it gives
abbrev pub IsOwn : World → ℕ → Command → Type 0
IsOwn w cl c = (c ≡ asked (client_of w cl) c.seq c.payload) × (0 < c.seq)

-- each of these requests is one of the client that sent it
abbrev pub AreOwn : World → List Sent → Type 0
AreOwn w sent =
    (s : Sent) → Among s sent → (c : Command) → s.frame ≡ frame.request c
    → (cl : ℕ) × (s.sender ≡ client_party cl) × IsOwn w cl c

-- what a client submits is its own
submitted-own : (me : Client) (payload : Bytes) (s : Session) (x : Session × Submitted) → IsAsked me payload s x
    → (o : Sending) → Among o (submitted_out x.1) → (c : Command) → o.1 ≡ frame.request c
    → (c ≡ asked me c.seq c.payload) × (0 < c.seq)
submitted-own me payload s x (kept n) o m c h = absurd m
submitted-own me payload s x given o (inl e) c h =
    subst (λ (z : Command). (z ≡ asked me z.seq z.payload) × (0 < z.seq))
    (same-command (asked me (suc s.used) payload) c (sym (ap (λ (y : Sending). y.1) e) ∙ h)) (refl, omega arith)
submitted-own me payload s x given o (inr k) c h = absurd k

-- what goes out in an event
out-own : (Known : Core → Type 0) (w : World) (e : Event) (m : MemorySupply) (f : Effect) → IsWell Known w
    → Effects w e m f → (o : Sending) → Among o f.out → (c : Command) → o.1 ≡ frame.request c
    → (cl : ℕ) × (party_of e ≡ client_party cl) × IsOwn w cl c
unfolding nothing stepped told submitted
out-own Known w e m f g (idle a n) o k c h = absurd k
out-own Known w e m f g (step_by i me ar) o k c h =
    absurd (outcome-not (self_of w (party_of e)) m
    (ruling (self_of w (party_of e)) i (w.replica (party_of e)).chronicle) (w.replica (party_of e)) _
    (step-outcome (self_of w (party_of e)) m i (w.replica (party_of e)) (arises-checked w e i ar)
    (g.good.run.row.sound (party_of e) me)) o k c h)
out-own Known w e m f g (hearing x b a n k l) o q c h = absurd q
out-own Known w e m f g (submitting i payload n k) o q c h = (
  i,
  submit-party e i payload n,
  submitted-own (client_of w i) payload (w.session i) _
      (submission-asked (client_of w i) m payload (w.session i)) o q c h,
)

-- an event leaves them so
pub happens-own : (Known : Core → Type 0) (w : World) (h : Happening) → IsWell Known w → ComesFramed w h.0
    → refusal w h.0 ≡ None → AreOwn w w.sent → AreOwn (happens w h) (happens w h).sent
unfolding happens
happens-own Known w h g framed ok old s m c e =
    elim (Among-either s w.sent (outs w (party_of h.0) (effect w h).out) m) [
      | inl k ↦ old s k c e
      | inr k ↦ (
          let i = Among-map (λ (o : Sending). record { event = w.now; sender = party_of h.0; to = o.0; frame = o.1 })
          (effect w h).out s k in
          let by = out-own Known w h.0 h.1 (effect w h) g (effects w h.0 h.1 framed ok) i.0 i.1 c
          (sym (ap (λ (y : Sent). y.frame) i.2) ∙ e) in
          (by.0, ap (λ (y : Sent). y.sender) i.2 ∙ by.1, by.2))
    ]

-- so it is of the client that is known to have sent it
pub own-of : (w : World) (s : Sent) (c : Command) (cl : ℕ) → AreOwn w w.sent → Among s w.sent
    → s.frame ≡ frame.request c → s.sender ≡ client_party cl → IsOwn w cl c
own-of w s c cl own m e by =
    let x = own s m c e in
    subst (λ (j : ℕ). IsOwn w j c) (same-client x.0 cl (sym x.1 ∙ by)) x.2
