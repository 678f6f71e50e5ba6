-- What clients submit in any run: no seq is given twice, and each receipt is of a seq that was given.
use Rattle.ids.specs.declared.kind.Kind.TheVariants as kind
use Rattle.ids.specs.declared.fault.Fault.{Fault}
use Rattle.ids.specs.declared.fault.Fault.TheVariants as fault
use Rattle.std.proofs.Common.{ℕ, suc, ◌≡◌, ◌-◌, ◌^◌, ◌<◌, ◌≤◌, ◌⊎◌, ◌&&◌, not, ◌==◌, Bool, true, List, []}
use Rattle.std.proofs.Common.{◌∷◌, ◌++◌, map, length, refl, sym, ap, subst, ◌∙◌, arith, inl, inr}
use Rattle.std.proofs.Common.{true≢false, nat_lt, filter, Option, Some, None, Ok}
use Rattle.std.specs.List.{list_any}
use Rattle.std.proofs.lemmas.Bool.{cond_both, and_parts, not-false}
use Rattle.definitions.proofs.Lists.{Among-either, Among-map, Among-mapped, Among-before, Among-after}
use Rattle.linear_law.proofs.Accounts.{NotRequest, none-not, fetch-not, sends-not, put-session}
use Rattle.linear_law.proofs.Accounts.{put-session-own, submit-party, on_reply-used}
use Rattle.linear_law.proofs.Final.{same-client}
use Rattle.linear_law.proofs.Sends.{sends, input-out}
use Rattle.linear_law.proofs.Linear.{run-step}
use Rattle.linear_law.specs.Law.{NoSeqIsGivenTwice, NamesOneCommand, ReceiptsNameCommands, RequestsDiffer}
use Rattle.definitions.specs.Lists.{Among}
use Rattle.definitions.specs.Bytes.{Bytes}
use Rattle.definitions.specs.Frames.{Command, Frame, command_content, reply_content}
use Rattle.ids.specs.Sizes.{Sizes, client_party}
use Rattle.definitions.specs.Keyrings.{Keyring, client_at, verify, vector_for}
use Rattle.definitions.specs.Histories.{Entry}
use Rattle.definitions.specs.Checks.{Identity}
use Rattle.definitions.specs.Rulings.{Input, Input.timeout_in, Input.beat_in, Input.prune_in}
use Rattle.definitions.specs.Rulings.{Input.lead_in, Input.ask_in}
use Rattle.definitions.specs.Sendings.{To.to_all, To.to_party, Sending, fetch_frame}
use Rattle.definitions.specs.Replicas.{MemorySupply}
use Rattle.definitions.specs.Replicas.{Replica}
use Rattle.definitions.specs.Replicas.{step}
use Rattle.definitions.specs.Sessions.{Client, Session, Heard, Receipt, Submitted, Submitted.not_sent}
use Rattle.definitions.specs.Sessions.{is_ample, submission, request_frame, on_reply, count_reply}
use Rattle.definitions.specs.Tally.{agrees}
use Rattle.definitions.specs.Worlds.{World, Sent, AcceptedBy, Event, Event.submit, Event.relay}
use Rattle.definitions.specs.Worlds.{Event.inject, Event.timeout, Event.beat, Event.prune, Happening, put}
use Rattle.definitions.specs.Worlds.{Event.offer, Event.gather, Event.lead, Event.ask, is_replica}
use Rattle.definitions.specs.Worlds.{self_of, client_of, new_world}
use Rattle.definitions.specs.Admission.{Checked, Checked.passes, Checked.rejected, check, check_offer}
use Rattle.definitions.specs.Admission.{check_gathered}
use Rattle.definitions.specs.Events.{Effect, nothing, stepped, told, submitted, out_of, accepted_of}
use Rattle.definitions.specs.Events.{on_checked, steps, hears, submits, comes, recorded, party_of}
use Rattle.definitions.specs.Events.{offers, frame_of, frames_of, client_number, acts, effect, happens}
use Rattle.definitions.specs.Runs.{refusal, run}
use Rattle.definitions.specs.Linearity.{WasSubmitted}
use Rattle.definitions.specs.Frames as frame

-- ---- a replica's step sends no request, whatever it holds

step-not : (self : Identity) (m : MemorySupply) (i : Input) (r : Replica) (o : Sending)
    → Among o (out_of self m (step self m i r).1) → NotRequest o
step-not self m i r =
    input-out self m NotRequest i r (λ st e o k. sends-not self st r.chronicle o (sends self st r.chronicle o k))
    (λ to d e. fetch-not self to d (to_party to, fetch_frame self to d) (inl refl))

-- ---- what an event is to the sessions

-- it leaves them and sends no request, or a client hears a frame, or a client submits
data Tells (w : World) (e : Event) (m : MemorySupply) : Effect → Type 0 where
  quiet : (f : Effect) → f.session ≡ w.session → f.accepted ≡ []
      → ((o : Sending) → Among o f.out → NotRequest o) → Tells w e m f
  hearing : (g : Frame) → Tells w e m (hears (client_at (party_of e)) m g w)
  submitting : (c : ℕ) (payload : Bytes) → e ≡ submit c payload → Tells w e m (submits c m payload w)

nothing-tells : (w : World) (e : Event) (m : MemorySupply) (a : Option Fault) → Tells w e m (nothing w a)
unfolding nothing
nothing-tells w e m a = quiet _ refl refl (λ o k. none-not o k)

steps-tells : (w : World) (e : Event) (p : ℕ) (m : MemorySupply) (i : Input) → Tells w e m (steps p m i w)
unfolding stepped
steps-tells w e p m i = quiet _ refl refl (λ o k. step-not (self_of w p) m i (w.replica p) o k)

checked-tells : (w : World) (e : Event) (p : ℕ) (m : MemorySupply) (x : Checked)
    → Tells w e m (on_checked p m x w)
checked-tells w e p m (passes i) = steps-tells w e p m i
checked-tells w e p m (rejected n) = nothing-tells w e m (Some n)

comes-tells : (w : World) (e : Event) (m : MemorySupply) (o : Option Frame)
    → Tells w e m (comes (party_of e) m o w)
unfolding comes
comes-tells w e m None = nothing-tells w e m (Some fault.NotAFrame)
comes-tells w e m (Some f) =
    cond_both (is_replica w (party_of e)) (on_checked (party_of e) m (check (self_of w (party_of e)) f) w)
    (hears (client_at (party_of e)) m f w) (Tells w e m)
    (λ r. checked-tells w e (party_of e) m (check (self_of w (party_of e)) f)) (λ r. hearing f)

offers-tells : (w : World) (e : Event) (p : ℕ) (m : MemorySupply) (o : Option Frame)
    → Tells w e m (offers p m o w)
unfolding offers
offers-tells w e p m None = nothing-tells w e m (Some fault.NotAFrame)
offers-tells w e p m (Some f) = checked-tells w e p m (check_offer (self_of w p) f)

acts-tells : (w : World) (e : Event) (m : MemorySupply) → Tells w e m (acts w e m)
unfolding acts party_of
acts-tells w (submit c payload) m = submitting c payload refl
acts-tells w (relay k to) m = comes-tells w (relay k to) m (recorded w k)
acts-tells w (inject to bytes f) m = comes-tells w (inject to bytes f) m f
acts-tells w (timeout r) m = steps-tells w (timeout r) r m timeout_in
acts-tells w (beat r) m = steps-tells w (beat r) r m beat_in
acts-tells w (prune r height) m = steps-tells w (prune r height) r m (prune_in height)
acts-tells w (offer to s) m = offers-tells w (offer to s) to m (frame_of w s)
acts-tells w (gather to ss) m =
    checked-tells w (gather to ss) to m (check_gathered (self_of w to) (frames_of w ss))
acts-tells w (lead r d) m = steps-tells w (lead r d) r m (lead_in d)
acts-tells w (ask r to d) m = steps-tells w (ask r to d) r m (ask_in to d)

effect-tells : (w : World) (e : Event) (m : MemorySupply) → Tells w e m (effect w (e, m))
unfolding effect
effect-tells w e m = cond_both (w.is_faulty (party_of e)) (nothing w None) (acts w e m) (Tells w e m)
    (λ f. nothing-tells w e m None) (λ ok. acts-tells w e m)

-- ---- one session

-- what is heard leaves the number, and a receipt is of the outstanding one
pub record IsHeard (s : Session) (x : Session × Heard) : Type 0 where
  pub waits : x.0.waiting ≡ true → s.waiting ≡ true
  pub accepted : (r : Receipt) → Among r (accepted_of x.1) → (s.waiting ≡ true) × (r.seq ≡ s.used)

unheard : (n : Fault) (s : Session) → IsHeard s (s, Heard.not_counted n)
unheard n s = record { waits = λ h. h; accepted = λ r k. absurd k }

one-receipt : (seq : ℕ) (a r : Receipt) → a.seq ≡ seq → Among r (a ∷ []) → r.seq ≡ seq
one-receipt seq a r e (inl i) = ap (λ (x : Receipt). x.seq) i ∙ e
one-receipt seq a r e (inr k) = absurd k

pub on_reply-heard : (me : Client) (m : MemorySupply) (f : Frame) (s : Session) → IsHeard s (on_reply me m f s)
unfolding on_reply count_reply
on_reply-heard me m (frame.reply r cl q pl tx g) s =
    cond_both (not (cl == me.number)) _ _ (IsHeard s) (λ k. unheard fault.NotMine s) (λ mine.
    cond_both (not (verify me.ring kind.Reply r (reply_content r cl q pl tx) g)) _ _ (IsHeard s)
    (λ k. unheard fault.BadTag s) (λ good.
    cond_both (not (s.waiting && (q == s.used))) _ _ (IsHeard s) (λ k. unheard fault.WrongSeq s) (λ now.
    let waits : s.waiting ≡ true = (and_parts s.waiting (q == s.used) (not-false _ now)).0 in
    cond_both (list_any (λ x. x.replica == r) s.tally) _ _ (IsHeard s) (λ k. unheard fault.Doubled s) (λ new.
    cond_both (not (is_ample m)) _ _ (IsHeard s) (λ k. unheard fault.Memory s) (λ k.
    cond_both (nat_lt me.sizes.faults
    (length (filter (agrees pl tx) (record { replica = r; place = pl; text = tx } ∷ s.tally)))) _ _
    (IsHeard s)
    (λ k. record { waits = λ h. waits; accepted = λ a i. (waits, one-receipt s.used _ a refl i) })
    (λ k. record { waits = λ h. waits; accepted = λ a i. absurd i }))))))
on_reply-heard me m (frame.request c) s = unheard fault.NotMine s
on_reply-heard me m (frame.proposal v c q t) s = unheard fault.NotMine s
on_reply-heard me m (frame.vote d x) s = unheard fault.NotMine s
on_reply-heard me m (frame.new_view v r q t) s = unheard fault.NotMine s
on_reply-heard me m (frame.fetch r d t) s = unheard fault.NotMine s
on_reply-heard me m (frame.block r c q t) s = unheard fault.NotMine s

-- the command that a client submits
abbrev pub asked : Client → ℕ → Bytes → Command
asked me seq payload = record {
  client = me.number;
  seq = seq;
  payload = payload;
  vector = vector_for me.sizes me.ring kind.Request (command_content me.number seq payload);
}

-- a submission is of the next number, or nothing changes
pub data IsAsked (me : Client) (payload : Bytes) (s : Session) : Session × Submitted → Type 0 where
  kept : (n : Fault) → IsAsked me payload s (s, not_sent n)
  given : IsAsked me payload s (
    record { used = suc s.used; waiting = true; tally = [] },
    Submitted.sent_request (frame.request (asked me (suc s.used) payload)),
  )

pub submission-asked : (me : Client) (m : MemorySupply) (payload : Bytes) (s : Session)
    → IsAsked me payload s (submission me m payload s)
unfolding submission request_frame
submission-asked me m payload s =
    cond_both s.waiting _ _ (IsAsked me payload s) (λ e. kept fault.Busy) (λ e.
    cond_both (s.used == (2 ^ 64 - 1)) _ _ (IsAsked me payload s) (λ e. kept fault.Spent) (λ last.
    cond_both (not (is_ample m)) _ _ (IsAsked me payload s) (λ e. kept fault.Memory) (λ e. given)))

-- ---- what an event does to sessions and requests

-- the request of the client's number that an event sends
abbrev IsGivenNow : Event → Effect → ℕ → Type 0
IsGivenNow e f cl =
    (o : Sending) × (c : Command) × Among o f.out × (o.1 ≡ frame.request c) × (party_of e ≡ client_party cl)
    × (c.client ≡ cl) × (c.seq ≡ (f.session cl).used)

-- a request that goes out is the one of its event and of its client's next number, and a receipt is of the
-- outstanding one
record KeepsGiven (w : World) (e : Event) (f : Effect) : Type 0 where
  used : (cl : ℕ) → (w.session cl).used ≤ (f.session cl).used
  sent : (o : Sending) → Among o f.out → (c : Command) → o.1 ≡ frame.request c
      → (party_of e ≡ client_party c.client) × (c.seq ≡ suc (w.session c.client).used)
      × (c.seq ≤ (f.session c.client).used)
  one : (o p : Sending) (c d : Command) → Among o f.out → Among p f.out → o.1 ≡ frame.request c
      → p.1 ≡ frame.request d → o ≡ p
  waits : (cl : ℕ) → (f.session cl).waiting ≡ true
      → (((w.session cl).waiting ≡ true) × ((f.session cl).used ≡ (w.session cl).used)) ⊎ IsGivenNow e f cl
  accepted : (r : Receipt) → Among r f.accepted
      → ((w.session (client_number e)).waiting ≡ true) × (r.seq ≡ (w.session (client_number e)).used)

pub same-command : (a b : Command) → frame.request a ≡ frame.request b → a ≡ b
same-command a b e = cc

told-keeps : (w : World) (e : Event) (x : Session × Heard) → x.0.used ≡ (w.session (client_number e)).used
    → IsHeard (w.session (client_number e)) x → KeepsGiven w e (told w (client_number e) x)
unfolding told
told-keeps w e x u h =
    let cl : ℕ = client_number e in
    record {
      used = λ i. put-session cl x.0 w.session (λ (y : Session). (w.session i).used ≤ y.used) i
          (λ k. let v = ap (λ (j : ℕ). (w.session j).used) k in omega (arith, u, v)) (omega arith);
      sent = λ o k. absurd k;
      one = λ o p c d k. absurd k;
      waits = λ i. put-session cl x.0 w.session (λ (y : Session). y.waiting ≡ true
          → (((w.session i).waiting ≡ true) × (y.used ≡ (w.session i).used))
          ⊎ ((o : Sending) × (c : Command) × Among o [] × (o.1 ≡ frame.request c)
          × (party_of e ≡ client_party i) × (c.client ≡ i) × (c.seq ≡ y.used))) i
          (λ k t. inl (
            subst (λ (j : ℕ). (w.session j).waiting ≡ true) (sym k) (h.waits t),
            u ∙ ap (λ (j : ℕ). (w.session j).used) (sym k),
          ))
          (λ t. inl (t, refl));
      accepted = h.accepted;
    }

asked-keeps : (w : World) (e : Event) (c : ℕ) (payload : Bytes) (x : Session × Submitted)
    → e ≡ submit c payload → IsAsked (client_of w c) payload (w.session c) x
    → KeepsGiven w e (submitted w c x)
unfolding submitted
asked-keeps w e c payload x i (kept n) = record {
  used = λ j. put-session c (w.session c) w.session (λ (y : Session). (w.session j).used ≤ y.used) j
      (λ k. let v = ap (λ (l : ℕ). (w.session l).used) k in omega (arith, v)) (omega arith);
  sent = λ o k. absurd k;
  one = λ o p a b k. absurd k;
  waits = λ j. put-session c (w.session c) w.session
      (λ (y : Session). y.waiting ≡ true
      → (((w.session j).waiting ≡ true) × (y.used ≡ (w.session j).used))
      ⊎ ((o : Sending) × (d : Command) × Among o [] × (o.1 ≡ frame.request d)
      × (party_of e ≡ client_party j) × (d.client ≡ j) × (d.seq ≡ y.used))) j
      (λ k t. inl (
        subst (λ (l : ℕ). (w.session l).waiting ≡ true) (sym k) t,
        ap (λ (l : ℕ). (w.session l).used) (sym k),
      ))
      (λ t. inl (t, refl));
  accepted = λ r k. absurd k;
}
asked-keeps w e c payload x i given = record {
  used = λ j. put-session c new w.session (λ (y : Session). (w.session j).used ≤ y.used) j
      (λ k. let v = ap (λ (l : ℕ). (w.session l).used) k in omega (arith, v)) (omega arith);
  sent = λ o k d h. subst (λ (y : Command). (party_of e ≡ client_party y.client)
      × (y.seq ≡ suc (w.session y.client).used) × (y.seq ≤ (put c new w.session y.client).used))
      (is o d k h) (
        submit-party e c payload i,
        refl,
        put-session-own c new w.session (λ (y : Session). suc (w.session c).used ≤ y.used) (omega arith),
      );
  one = λ o p a b k l h g. only o k ∙ sym (only p l);
  waits = λ j. put-session c new w.session (λ (y : Session). y.waiting ≡ true
      → (((w.session j).waiting ≡ true) × (y.used ≡ (w.session j).used))
      ⊎ ((o : Sending) × (d : Command) × Among o ((to_all, frame.request command) ∷ [])
      × (o.1 ≡ frame.request d) × (party_of e ≡ client_party j) × (d.client ≡ j) × (d.seq ≡ y.used)))
      j
      (λ k t. inr (
        (to_all, frame.request command),
        command,
        inl refl,
        refl,
        submit-party e c payload i ∙ ap client_party (sym k),
        sym k,
        refl,
      ))
      (λ t. inl (t, refl));
  accepted = λ r k. absurd k;
}
  where
    command : Command
    command = asked (client_of w c) (suc (w.session c).used) payload

    new : Session
    new = record { used = suc (w.session c).used; waiting = true; tally = [] }

    only : (o : Sending) → Among o ((to_all, frame.request command) ∷ [])
        → o ≡ (to_all, frame.request command)
    only o (inl h) = h
    only o (inr n) = absurd n

    is : (o : Sending) (d : Command) → Among o ((to_all, frame.request command) ∷ [])
        → o.1 ≡ frame.request d → command ≡ d
    is o d k h = same-command command d (sym (ap (λ (y : Sending). y.1) (only o k)) ∙ h)

tells-keeps : (w : World) (e : Event) (m : MemorySupply) (f : Effect) → Tells w e m f → KeepsGiven w e f
tells-keeps w e m f (quiet g s a n) = record {
  used = λ cl. subst (λ (row : ℕ → Session). (w.session cl).used ≤ (row cl).used) (sym s) (omega arith);
  sent = λ o k c h. absurd (n o k c h);
  one = λ o p c d k l h g. absurd (n o k c h);
  waits = λ cl t. inl (
    subst (λ (row : ℕ → Session). (row cl).waiting ≡ true) s t,
    ap (λ (row : ℕ → Session). (row cl).used) s,
  );
  accepted = λ r k. absurd (subst (λ (l : List Receipt). Among r l) a k);
}
tells-keeps w e m f (hearing g) =
    let cl : ℕ = client_number e in
    told-keeps w e (on_reply (client_of w cl) m g (w.session cl))
    (on_reply-used (client_of w cl) m g (w.session cl))
    (on_reply-heard (client_of w cl) m g (w.session cl))
tells-keeps w e m f (submitting c payload i) =
    asked-keeps w e c payload (submission (client_of w c) m payload (w.session c)) i
    (submission-asked (client_of w c) m payload (w.session c))

-- ---- a world

-- the client sent a request of this number before the event
abbrev IsRequested : List Sent → ℕ → ℕ → ℕ → Type 0
IsRequested sent cl seq event =
    (s : Sent) × (c : Command) × Among s sent × (s.sender ≡ client_party cl) × (s.frame ≡ frame.request c)
    × (c.client ≡ cl) × (c.seq ≡ seq) × (s.event < event)

requested-later : (sent more : List Sent) (cl seq event later : ℕ) → event ≤ later
    → IsRequested sent cl seq event → IsRequested (sent ++ more) cl seq later
requested-later sent more cl seq event later l r =
    let t = r.7 in (r.0, r.1, Among-before r.0 sent more r.2, r.3, r.4, r.5, r.6, omega (arith, l, t))

-- each request is of a number that its client has used, once, and each receipt of a number that was requested
record CountsRequests (w : World) : Type 0 where
  past : (s : Sent) → Among s w.sent → s.event < w.now
  own : (s : Sent) (c : Command) → Among s w.sent → s.frame ≡ frame.request c
      → s.sender ≡ client_party c.client
  bound : (s : Sent) (c : Command) → Among s w.sent → s.frame ≡ frame.request c
      → c.seq ≤ (w.session c.client).used
  once : RequestsDiffer w
  waits : (cl : ℕ) → (w.session cl).waiting ≡ true → IsRequested w.sent cl (w.session cl).used w.now
  receipts : (r : AcceptedBy) → Among r w.receipts → IsRequested w.sent r.client r.receipt.seq r.event

-- each event keeps it
happens-counts : (w : World) (e : Event) (m : MemorySupply) → CountsRequests w
    → CountsRequests (happens w (e, m))
unfolding happens
happens-counts w e m a = record {
  past = λ s n. elim (Among-either s w.sent _ n) [
    | inl x ↦ (let t = a.past s x in omega (arith, t))
    | inr x ↦ (let t = ap (λ (y : Sent). y.event) (from s x).2 in omega (arith, t))
  ];
  own = λ s c n h. elim (Among-either s w.sent _ n) [ inl x ↦ a.own s c x h | inr x ↦ new-own s c x h ];
  bound = λ s c n h. elim (Among-either s w.sent _ n) [
    | inl x ↦ (let l = a.bound s c x h in let u = k.used c.client in omega (arith, l, u))
    | inr x ↦ (new s c x h).2
  ];
  once = λ s t c d n p h g by eq. elim (Among-either s w.sent _ n) [
    | inl x ↦ elim (Among-either t w.sent _ p)
        [ inl y ↦ a.once s t c d x y h g by eq | inr y ↦ absurd (apart s t c d x y h g by eq) ]
    | inr x ↦ elim (Among-either t w.sent _ p)
        [ inl y ↦ absurd (apart t s d c y x g h (sym by) (sym eq)) | inr y ↦ both s t c d x y h g ]
  ];
  waits = waits;
  receipts = receipts;
}
  where
    f : Effect
    f = effect w (e, m)

    k : KeepsGiven w e f
    k = tells-keeps w e m f (effect-tells w e m)

    record_of : Sending → Sent
    record_of o = record { event = w.now; sender = party_of e; to = o.0; frame = o.1 }

    receipt_of : Receipt → AcceptedBy
    receipt_of r = record { event = w.now; client = client_number e; receipt = r }

    from : (s : Sent) → Among s (map record_of f.out) → (o : Sending) × Among o f.out × (s ≡ record_of o)
    from s n = Among-map record_of f.out s n

    new : (s : Sent) (c : Command) → Among s (map record_of f.out) → s.frame ≡ frame.request c
        → (party_of e ≡ client_party c.client) × (c.seq ≡ suc (w.session c.client).used)
        × (c.seq ≤ (f.session c.client).used)
    new s c n h = let i = from s n in k.sent i.0 i.1 c (sym (ap (λ (y : Sent). y.frame) i.2) ∙ h)

    new-own : (s : Sent) (c : Command) → Among s (map record_of f.out) → s.frame ≡ frame.request c
        → s.sender ≡ client_party c.client
    new-own s c n h = ap (λ (y : Sent). y.sender) (from s n).2 ∙ (new s c n h).0

    apart : (s t : Sent) (c d : Command) → Among s w.sent → Among t (map record_of f.out)
        → s.frame ≡ frame.request c → t.frame ≡ frame.request d → s.sender ≡ t.sender → c.seq ≡ d.seq → ⊥
    apart s t c d x y h g by eq =
        let same : c.client ≡ d.client =
        same-client c.client d.client (sym (a.own s c x h) ∙ (by ∙ new-own t d y g)) in
        let u = ap (λ (j : ℕ). (w.session j).used) same in
        let l = a.bound s c x h in
        let q = (new t d y g).1 in
        omega (arith, u, l, q, eq)

    both : (s t : Sent) (c d : Command) → Among s (map record_of f.out) → Among t (map record_of f.out)
        → s.frame ≡ frame.request c → t.frame ≡ frame.request d → s ≡ t
    both s t c d x y h g =
        let i = from s x in
        let j = from t y in
        i.2
        ∙ (ap record_of (k.one i.0 j.0 c d i.1 j.1 (sym (ap (λ (z : Sent). z.frame) i.2) ∙ h)
        (sym (ap (λ (z : Sent). z.frame) j.2) ∙ g)) ∙ sym j.2)

    waits : (cl : ℕ) → (f.session cl).waiting ≡ true
        → IsRequested (w.sent ++ map record_of f.out) cl (f.session cl).used (suc w.now)
    waits cl t = elim (k.waits cl t) [
      | inl x ↦ requested-later w.sent _ cl (f.session cl).used w.now (suc w.now) (omega arith)
          (subst (λ (n : ℕ). IsRequested w.sent cl n w.now) (sym x.1) (a.waits cl x.0))
      | inr x ↦ (
        record_of x.0,
        x.1,
        Among-after (record_of x.0) w.sent _ (Among-mapped record_of f.out x.0 x.2),
        x.4,
        x.3,
        x.5,
        x.6,
        omega arith,
      )
    ]

    receipts : (r : AcceptedBy) → Among r (map receipt_of f.accepted ++ w.receipts)
        → IsRequested (w.sent ++ map record_of f.out) r.client r.receipt.seq r.event
    receipts r n = elim (Among-either r (map receipt_of f.accepted) w.receipts n) [
      | inl x ↦ (
          let i = Among-map receipt_of f.accepted r x in
          let h = k.accepted i.0 i.1 in
          subst
          (λ (y : AcceptedBy). IsRequested (w.sent ++ map record_of f.out) y.client y.receipt.seq y.event)
          (sym i.2)
          (subst (λ (q : ℕ). IsRequested (w.sent ++ map record_of f.out) (client_number e) q w.now) (sym h.1)
          (requested-later w.sent _ (client_number e) _ w.now w.now (omega arith)
          (a.waits (client_number e) h.0)))
          )
      | inr x ↦ requested-later w.sent _ r.client r.receipt.seq r.event r.event (omega arith) (a.receipts r x)
    ]

-- ---- a run

-- a whole run
run-counts : (hs : List Happening) (w last : World) → CountsRequests w → run w hs ≡ Ok last
    → CountsRequests last
unfolding run
run-counts [] w last a e = let k : w ≡ last = cc in subst CountsRequests k a
run-counts (h ∷ hs) w last a e =
    run-counts hs (happens w h) last (happens-counts w h.0 h.1 a)
    (run-step (refusal w h.0) (run (happens w h) hs) last e).1

-- the world at its start
new-counts : (sizes : Sizes) (is_faulty : ℕ → Bool) (ring : ℕ → Keyring)
    → CountsRequests (new_world sizes is_faulty ring)
unfolding new_world
new-counts sizes is_faulty ring = record {
  past = λ s n. absurd n;
  own = λ s c n. absurd n;
  bound = λ s c n. absurd n;
  once = λ s t c d n. absurd n;
  waits = λ cl t. absurd (true≢false (sym t));
  receipts = λ r n. absurd n;
}

-- no seq is given twice
pub no-seq-twice : NoSeqIsGivenTwice
no-seq-twice sizes is_faulty ring hs last e =
    (run-counts hs (new_world sizes is_faulty ring) last (new-counts sizes is_faulty ring) e).once

-- a receipt of a request that was sent once names its command
names-one : (w : World) (r : AcceptedBy) → RequestsDiffer w
    → IsRequested w.sent r.client r.receipt.seq r.event → NamesOneCommand w r
names-one w r once q = record {
  entry = record { client = r.client; seq = r.receipt.seq; payload = q.1.payload };
  event = q.0.event;
  client = refl;
  seq = refl;
  submitted = record {
    sent = q.0;
    command = q.1;
    recorded = q.2;
    by_client = q.3;
    at_event = refl;
    is_request = q.4;
    client = q.5;
    seq = q.6;
    payload = refl;
  };
  before = q.7;
  alone = alone;
}
  where
    alone : (e : Entry) (n : ℕ) → e.client ≡ r.client → e.seq ≡ r.receipt.seq → WasSubmitted w e n
        → (e ≡ record { client = r.client; seq = r.receipt.seq; payload = q.1.payload }) × (n ≡ q.0.event)
    alone e n cl sq sub =
        let same : sub.sent ≡ q.0 =
        once sub.sent q.0 sub.command q.1 sub.recorded q.2 sub.is_request q.4
        (sub.by_client ∙ (ap client_party cl ∙ sym q.3)) (sub.seq ∙ (sq ∙ sym q.6)) in
        let command : sub.command ≡ q.1 =
        same-command sub.command q.1 (sym sub.is_request ∙ (ap (λ (s : Sent). s.frame) same ∙ q.4)) in
        let payload : e.payload ≡ q.1.payload = sym sub.payload ∙ ap (λ (c : Command). c.payload) command in (
          λ k. record { client = cl k; seq = sq k; payload = payload k },
          sym sub.at_event ∙ ap (λ (s : Sent). s.event) same,
        )

-- each receipt names one submitted command
pub receipts-name : ReceiptsNameCommands
receipts-name sizes is_faulty ring hs last e =
    let a = run-counts hs (new_world sizes is_faulty ring) last (new-counts sizes is_faulty ring) e in
    λ r n. names-one last r a.once (a.receipts r n)
