-- A client that waits for a request waits on, or has its receipt.
use Rattle.ids.specs.declared.fault.Fault.{Fault}
use Rattle.ids.specs.declared.fault.Fault.TheVariants as fault
use Rattle.ids.specs.declared.kind.Kind.TheVariants as kind
use Rattle.std.specs.Prelude.{◌⊎◌, ◌&&◌, not, nat_lt}
use Rattle.std.specs.List.{list_any}
use Rattle.std.proofs.Common.{ℕ, ◌≡◌, ◌==◌, true, List, [], ◌∷◌, map, Option, Some, None, inl, inr}
use Rattle.std.proofs.Common.{sym, subst, ◌∙◌, refl, true≢false}
use Rattle.std.proofs.lemmas.Bool.{cond_both}
use Rattle.definitions.specs.Admission.{Checked, passes, rejected, check, check_offer, check_gathered}
use Rattle.definitions.specs.Bytes.{Bytes}
use Rattle.definitions.specs.Events.{Effect, nothing, stepped, steps, on_checked, told, hears, submitted, submits, comes}
use Rattle.definitions.specs.Events.{offers, acts, effect, happens, party_of, client_number, recorded, frame_of}
use Rattle.definitions.specs.Events.{frames_of, accepted_of}
use Rattle.definitions.specs.Frames.{Frame, reply_content}
use Rattle.definitions.specs.Frames as frame
use Rattle.definitions.specs.Keyrings.{client_at, verify}
use Rattle.definitions.specs.Lists.{Among}
use Rattle.definitions.specs.Replicas.{MemorySupply}
use Rattle.definitions.specs.Rulings.{Input, Input.timeout_in, Input.beat_in, Input.prune_in, Input.lead_in, Input.ask_in}
use Rattle.definitions.specs.Runs.{after}
use Rattle.definitions.specs.Sessions.{Client, Session, Receipt, Submitted, Heard, is_ample, submission, on_reply}
use Rattle.definitions.specs.Sessions.{count_reply}
use Rattle.definitions.specs.Tally.{agreeing}
use Rattle.definitions.specs.Worlds.{World, AcceptedBy, Event, Happening, is_replica, self_of, client_of}
use Rattle.definitions.specs.Worlds.{Event.submit, Event.relay, Event.inject, Event.timeout, Event.beat, Event.prune}
use Rattle.definitions.specs.Worlds.{Event.offer, Event.gather, Event.lead, Event.ask}
use Rattle.definitions.proofs.Lists.{Among-before, Among-after, Among-mapped}
use Rattle.linear_law.proofs.Accounts.{put-session}
use Rattle.recovery.specs.NeverWedged.{IsAnswered}

-- a session waits for its request of this number
abbrev IsWaiting : ℕ → Session → Type 0
IsWaiting seq s = (s.waiting ≡ true) × (s.used ≡ seq)

-- it goes on, or these receipts have that of the request
abbrev GoesOn : ℕ → Session → List Receipt → Type 0
GoesOn seq s accepted = IsWaiting seq s ⊎ ((r : Receipt) × Among r accepted × (r.seq ≡ seq))

-- ---- one session

heard-on : (seq : ℕ) (me : Client) (m : MemorySupply) (f : Frame) (s : Session) → IsWaiting seq s
    → GoesOn seq (on_reply me m f s).0 (accepted_of (on_reply me m f s).1)
unfolding on_reply count_reply
heard-on seq me m (frame.reply r cl q pl tx g) s w =
    cond_both (not (cl == me.number)) _ _ P (λ k. inl w) (λ mine.
    cond_both (not (verify me.ring kind.Reply r (reply_content r cl q pl tx) g)) _ _ P (λ k. inl w) (λ good.
    cond_both (not (s.waiting && (q == s.used))) _ _ P (λ k. inl w) (λ now.
    cond_both (list_any (λ x. x.replica == r) s.tally) _ _ P (λ k. inl w) (λ new.
    cond_both (not (is_ample m)) _ _ P (λ k. inl w) (λ k.
    cond_both (nat_lt me.sizes.faults
    (agreeing (record { replica = r; place = pl; text = tx } ∷ s.tally) pl tx)) _ _ P
    (λ k. inr (_, inl refl, w.1)) (λ k. inl (refl, w.1)))))))
  where
    P : Session × Heard → Type 0
    P x = GoesOn seq x.0 (accepted_of x.1)
heard-on seq me m (frame.request c) s w = inl w
heard-on seq me m (frame.proposal v c q t) s w = inl w
heard-on seq me m (frame.vote d x) s w = inl w
heard-on seq me m (frame.new_view v r q t) s w = inl w
heard-on seq me m (frame.fetch r d t) s w = inl w
heard-on seq me m (frame.block r c q t) s w = inl w

-- who waits submits nothing
submits-not : (seq : ℕ) (me : Client) (m : MemorySupply) (payload : Bytes) (s : Session) → IsWaiting seq s
    → IsWaiting seq (submission me m payload s).0
unfolding submission
submits-not seq me m payload s w =
    cond_both s.waiting _ _ (λ (x : Session × Submitted). IsWaiting seq x.0) (λ e. w)
    (λ no. absurd (true≢false (sym w.0 ∙ no)))

-- ---- an event

-- the client waits on after it, or it brings its receipt
abbrev Keeps : World → Event → (client seq : ℕ) → Effect → Type 0
Keeps w e client seq f =
    IsWaiting seq (w.session client)
    → IsWaiting seq (f.session client)
    ⊎ ((client_number e ≡ client) × ((r : Receipt) × Among r f.accepted × (r.seq ≡ seq)))

module _ (w : World) (e : Event) (client seq : ℕ) where
  nothing-keeps : (a : Option Fault) → Keeps w e client seq (nothing w a)
  unfolding nothing
  nothing-keeps a t = inl t

  steps-keep : (p : ℕ) (m : MemorySupply) (i : Input) → Keeps w e client seq (steps p m i w)
  unfolding stepped
  steps-keep p m i t = inl t

  checked-keeps : (p : ℕ) (m : MemorySupply) (x : Checked) → Keeps w e client seq (on_checked p m x w)
  checked-keeps p m (passes i) = steps-keep p m i
  checked-keeps p m (rejected n) = nothing-keeps (Some n)

  hears-keeps : (m : MemorySupply) (f : Frame) → Keeps w e client seq (hears (client_number e) m f w)
  unfolding told
  hears-keeps m f t =
      let c : ℕ = client_number e in
      let x : Session × Heard = on_reply (client_of w c) m f (w.session c) in
      put-session c x.0 w.session
      (λ (s : Session). IsWaiting seq s ⊎ ((c ≡ client) × ((r : Receipt) × Among r (accepted_of x.1) × (r.seq ≡ seq))))
      client
      (λ i. elim (heard-on seq (client_of w c) m f (w.session c) (subst (λ (j : ℕ). IsWaiting seq (w.session j)) i t)) [
        | inl k ↦ inl k
        | inr k ↦ inr (sym i, k)
      ])
      (inl t)

  submits-keeps : (c : ℕ) (m : MemorySupply) (payload : Bytes) → Keeps w e client seq (submits c m payload w)
  unfolding submitted
  submits-keeps c m payload t =
      inl (put-session c (submission (client_of w c) m payload (w.session c)).0 w.session (IsWaiting seq) client
      (λ i. submits-not seq (client_of w c) m payload (w.session c)
      (subst (λ (j : ℕ). IsWaiting seq (w.session j)) i t)) t)

  comes-keeps : (m : MemorySupply) (o : Option Frame) → Keeps w e client seq (comes (party_of e) m o w)
  unfolding comes
  comes-keeps m None = nothing-keeps (Some fault.NotAFrame)
  comes-keeps m (Some f) =
      cond_both (is_replica w (party_of e)) (on_checked (party_of e) m (check (self_of w (party_of e)) f) w)
      (hears (client_at (party_of e)) m f w) (Keeps w e client seq)
      (λ r. checked-keeps (party_of e) m (check (self_of w (party_of e)) f)) (λ r. hears-keeps m f)

  offers-keeps : (p : ℕ) (m : MemorySupply) (o : Option Frame) → Keeps w e client seq (offers p m o w)
  unfolding offers
  offers-keeps p m None = nothing-keeps (Some fault.NotAFrame)
  offers-keeps p m (Some f) = checked-keeps p m (check_offer (self_of w p) f)

acts-keeps : (w : World) (e : Event) (m : MemorySupply) (client seq : ℕ) → Keeps w e client seq (acts w e m)
unfolding acts party_of
acts-keeps w (submit c payload) m cl seq = submits-keeps w (submit c payload) cl seq c m payload
acts-keeps w (relay k to) m cl seq = comes-keeps w (relay k to) cl seq m (recorded w k)
acts-keeps w (inject to bytes f) m cl seq = comes-keeps w (inject to bytes f) cl seq m f
acts-keeps w (timeout r) m cl seq = steps-keep w (timeout r) cl seq r m timeout_in
acts-keeps w (beat r) m cl seq = steps-keep w (beat r) cl seq r m beat_in
acts-keeps w (prune r height) m cl seq = steps-keep w (prune r height) cl seq r m (prune_in height)
acts-keeps w (offer to s) m cl seq = offers-keeps w (offer to s) cl seq to m (frame_of w s)
acts-keeps w (gather to ss) m cl seq =
    checked-keeps w (gather to ss) cl seq to m (check_gathered (self_of w to) (frames_of w ss))
acts-keeps w (lead r d) m cl seq = steps-keep w (lead r d) cl seq r m (lead_in d)
acts-keeps w (ask r to d) m cl seq = steps-keep w (ask r to d) cl seq r m (ask_in to d)

effect-keeps : (w : World) (e : Event) (m : MemorySupply) (client seq : ℕ) → Keeps w e client seq (effect w (e, m))
unfolding effect
effect-keeps w e m cl seq =
    cond_both (w.is_faulty (party_of e)) (nothing w None) (acts w e m) (Keeps w e cl seq)
    (λ f. nothing-keeps w e cl seq None) (λ ok. acts-keeps w e m cl seq)

-- ---- a run

-- the client waits for its request of this number, or has its receipt
abbrev pub IsAwaited : World → (client seq : ℕ) → Type 0
IsAwaited w client seq = IsWaiting seq (w.session client) ⊎ IsAnswered w client seq

happens-awaited : (w : World) (h : Happening) (client seq : ℕ) → IsAwaited w client seq
    → IsAwaited (happens w h) client seq
unfolding happens
happens-awaited w h client seq (inr r) = inr (r.0, Among-after r.0 _ w.receipts r.1, r.2, r.3)
happens-awaited w h client seq (inl t) =
    let f : Effect = effect w h in
    let receipt_of : Receipt → AcceptedBy =
    λ r. record { event = w.now; client = client_number h.0; receipt = r } in
    elim (effect-keeps w h.0 h.1 client seq t) [
      | inl k ↦ inl k
      | inr k ↦ inr (
        receipt_of k.1.0,
        Among-before (receipt_of k.1.0) (map receipt_of f.accepted) w.receipts
            (Among-mapped receipt_of f.accepted k.1.0 k.1.1),
        k.0,
        k.1.2,
      )
    ]

pub awaited-after : (w : World) (hs : List Happening) (client seq : ℕ) → IsAwaited w client seq
    → IsAwaited (after w hs) client seq
unfolding after
awaited-after w [] client seq a = a
awaited-after w (h ∷ hs) client seq a = awaited-after (happens w h) hs client seq (happens-awaited w h client seq a)
