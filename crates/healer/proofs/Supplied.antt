-- An event in which no memory was refused is the same with ample memory.
use Rattle.ids.specs.declared.fault.Fault.{Fault}
use Rattle.ids.specs.declared.fault.Fault.TheVariants as fault
use Rattle.ids.specs.declared.kind.Kind.TheVariants as kind
use Rattle.std.specs.Prelude.{◌==◌, ◌&&◌, not, nat_le, ◌^◌, if◌then◌else◌, ⊤}
use Rattle.std.proofs.Common.{ℕ, zero, suc, ◌+◌, ◌-◌, arith, length-append, reverse, slice_get, ◌≡◌, ◌⊎◌, Bool, true, false, cond, List, [], ◌∷◌, ◌++◌, map, length, refl, sym, ap, subst}
use Rattle.std.proofs.Common.{◌∙◌, inl, inr, Option, Some, None, Result, Ok, Err, OnOk}
use Rattle.std.proofs.lemmas.Bool.{cond-true, cond-false, cond_both, cases_Bool, true≢false, not_from_true, eq-eqb, eqb-true, ne_eqb, and_parts, or_left}
use Rattle.std.proofs.lemmas.List.{length-map, reverse-append}
use Rattle.definitions.specs.Admission.{Checked, passes, rejected, check, check_offer, check_gathered, check_copies, when}
use Rattle.definitions.specs.Admission.{is_copy}
use Rattle.std.specs.List.{list_all}
use Rattle.definitions.specs.Branches.{Branch}
use Rattle.definitions.specs.Bytes.{Bytes}
use Rattle.definitions.specs.Checks.{Identity, findings}
use Rattle.definitions.specs.Chronicles.{Admitted, Chronicle, Step, Step.took_block}
use Rattle.definitions.specs.Events.{Effect, stepped, steps, on_checked, acts, effect, happens, party_of, out_of, answer_of}
use Rattle.definitions.specs.Events.{comes, offers, submits, hears, told, submitted, heard_answer, submitted_answer, client_number}
use Rattle.definitions.specs.Events.{frames_of, recorded, frame_of}
use Rattle.definitions.specs.Frames.{Frame, Core, Certificate, reply_content, sender_of}
use Rattle.definitions.specs.Frames as frame
use Rattle.definitions.specs.Grounds.{may_lead_from, are_replicas, without_votes}
use Rattle.definitions.specs.Keyrings.{verify, client_at}
use Rattle.definitions.specs.Replicas.{MemorySupply, MemorySupply.ample, MemorySupply.refused_at_once}
use Rattle.definitions.specs.Replicas.{MemorySupply.refused_after, Replica, Standing, Standing.running, Standing.stopped}
use Rattle.definitions.specs.Replicas.{Standing.cut_short, Reaction, Reaction.sends_out, Reaction.fails, Reaction.asks_for}
use Rattle.definitions.specs.Replicas.{on_step, on_ruling, step, executes}
use Rattle.definitions.specs.Rulings.{Input, Ruling, Ruling.due, Ruling.missing, Ruling.refusing, ruling, conflicts, lead, admitted, votes_for}
use Rattle.definitions.specs.Rulings.{on_relay, Input.relayed_in, Input.timeout_in, Input.beat_in, Input.prune_in}
use Rattle.definitions.specs.Rulings.{Input.lead_in, Input.ask_in}
use Rattle.definitions.specs.Sendings.{Sending}
use Rattle.definitions.specs.Sessions.{Client, Session, Heard, Heard.not_counted, Submitted, Submitted.not_sent, on_reply}
use Rattle.definitions.specs.Sessions.{submission, count_reply, Submitted.sent_request, request_frame}
use Rattle.definitions.specs.Tally.{is_counted}
use Rattle.definitions.specs.Trees.{Placing, Placing.stands, Placing.grows, Placing.lacks_parent, Placing.unfit}
use Rattle.definitions.specs.Worlds.{World, Event, Happening, is_replica, self_of, submit, relay, inject, timeout, beat}
use Rattle.definitions.specs.Worlds.{prune, offer, gather, lead as leads, ask}
use Rattle.definitions.specs.Keyrings.{Keyring, is_replica_of, is_client_of}
use Rattle.definitions.specs.Runs.{refusal, names_party, names_frame, names_request}
use Rattle.ids.specs.Sizes.{Sizes, replicas}
use Rattle.world_schedule.proofs.Runs.{comes-more}
use Rattle.world_schedule.specs.declared.event.Event as code
use Rattle.world_schedule.specs.declared.event.Event.TheVariants.{Submit, Relay, Inject, Timeout, Beat}
use Rattle.world_schedule.specs.declared.event.Event.TheVariants.{Prune, Offer, Gather, Lead, Ask}
use Rattle.world_schedule.specs.Progress.{IsAt, ComesTo, Stand, StandsAt, Happened}
use Rattle.world_schedule.specs.Schedules.{event_of}
use Rattle.world_schedule.specs.Seats.{IsIn}
use Rattle.world_schedule.specs.Settings.{Setting, Holds}
use Rattle.healer.specs.Courses.{Took}
use Rattle.healer.specs.Supplied.{asks, asks_in, lacked, IsSupplied}

-- ---- a replica's step

-- memory was refused to a step, or it is as with ample memory
abbrev Served : Replica × Reaction → Replica × Reaction → Type 0
Served x y = (answer_of x.1 ≡ Some fault.Memory) ⊎ (x ≡ y)

step-served : (self : Identity) (m : MemorySupply) (s : Step) (c : Chronicle)
    → Served (on_step self m s c) (on_step self ample s c)
unfolding on_step
step-served self ample s c = inr refl
step-served self refused_at_once s c = inl refl
step-served self (refused_after k) s c = elim (cases_Bool (conflicts s c)) [
  | inl t ↦ inr (cond-true (conflicts s c) _ _ t ∙ sym (cond-true (conflicts s c) _ _ t))
  | inr n ↦ inl (ap (λ (x : Replica × Reaction). answer_of x.1) (cond-false (conflicts s c) _ _ n)
      ∙ cond_both (executes s c) _ _ (λ (x : Replica × Reaction). answer_of x.1 ≡ Some fault.Memory) (λ e. refl) (λ e. refl))
]

ruling-served : (self : Identity) (m : MemorySupply) (v : Ruling) (c : Chronicle)
    → Served (on_ruling self m v c) (on_ruling self ample v c)
unfolding on_ruling
ruling-served self m (due s) c = step-served self m s c
ruling-served self m (missing to d) c = inr refl
ruling-served self m (refusing n) c = inr refl

input-served : (self : Identity) (m : MemorySupply) (i : Input) (r : Replica)
    → Served (step self m i r) (step self ample i r)
unfolding step
input-served self m i r = by r.standing
  where
    by : (s : Standing)
        → Served (elim s as (λ x. Replica × Reaction) [
          | running ↦ on_ruling self m (ruling self i r.chronicle) r.chronicle
          | stopped ↦ (r, fails fault.Stopped)
          | cut_short held ↦ (r, fails fault.Stopped)
        ]) (elim s as (λ x. Replica × Reaction) [
          | running ↦ on_ruling self ample (ruling self i r.chronicle) r.chronicle
          | stopped ↦ (r, fails fault.Stopped)
          | cut_short held ↦ (r, fails fault.Stopped)
        ])
    by running = ruling-served self m (ruling self i r.chronicle) r.chronicle
    by stopped = inr refl
    by (cut_short held) = inr refl

-- ---- questions

-- a step that lacks a block sends no question, whatever memory there is
abbrev IsQuiet : Identity → Replica × Reaction → Type 0
IsQuiet self x = answer_of x.1 ≡ Some fault.UnknownParent → out_of self ample x.1 ≡ []

none-some : (n : Fault) → ◌≡◌ {A = Option Fault} None (Some n) → ⊥
none-some n h = cc

step-quiet : (self : Identity) (s : Step) (c : Chronicle) → IsQuiet self (on_step self ample s c)
unfolding on_step
step-quiet self s c =
    cond_both (conflicts s c) _ _ (IsQuiet self) (λ e h. refl) (λ e h. absurd (none-some fault.UnknownParent h))

-- an input by which a replica asks nobody
abbrev AsksNobody : Identity → Input → Type 0
AsksNobody self i = (c : Chronicle) (to : ℕ) (d : Bytes) → ruling self i c ≡ missing to d
    → out_of self ample (asks_for to d) ≡ []

ruling-quiet : (self : Identity) (v : Ruling) (c : Chronicle)
    → ((to : ℕ) (d : Bytes) → v ≡ missing to d → out_of self ample (asks_for to d) ≡ [])
    → IsQuiet self (on_ruling self ample v c)
unfolding on_ruling
ruling-quiet self (due s) c h = step-quiet self s c
ruling-quiet self (missing to d) c h = λ e. h to d refl
ruling-quiet self (refusing n) c h = λ e. refl

input-quiet : (self : Identity) (i : Input) (r : Replica) → AsksNobody self i → IsQuiet self (step self ample i r)
unfolding step
input-quiet self i r h = by r.standing
  where
    by : (s : Standing) → IsQuiet self (elim s as (λ x. Replica × Reaction) [
      | running ↦ on_ruling self ample (ruling self i r.chronicle) r.chronicle
      | stopped ↦ (r, fails fault.Stopped)
      | cut_short held ↦ (r, fails fault.Stopped)
    ])
    by running = ruling-quiet self (ruling self i r.chronicle) r.chronicle (h r.chronicle)
    by stopped = λ e. refl
    by (cut_short held) = λ e. refl

due-missing : (s : Step) (to : ℕ) (d : Bytes) → due s ≡ missing to d → ⊥
due-missing s to d h = cc

refusing-missing : (n : Fault) (to : ℕ) (d : Bytes) → refusing n ≡ missing to d → ⊥
refusing-missing n to d h = cc

timeout-quiet : (self : Identity) → AsksNobody self timeout_in
unfolding ruling
timeout-quiet self c to d h = absurd (due-missing _ to d h)

beat-quiet : (self : Identity) → AsksNobody self beat_in
unfolding ruling
beat-quiet self c to d h = absurd (due-missing _ to d h)

prune-quiet : (self : Identity) (height : ℕ) → AsksNobody self (prune_in height)
unfolding ruling
prune-quiet self height c to d h = absurd (due-missing _ to d h)

lead-quiet : (self : Identity) (block : Bytes) → AsksNobody self (lead_in block)
unfolding ruling
lead-quiet self block c to d h = by _ h
  where
    by : (o : Option Branch) → lead self o c ≡ missing to d → out_of self ample (asks_for to d) ≡ []
    by None e = absurd (refusing-missing _ to d e)
    by (Some b) e =
        cond_both (may_lead_from self b c) _ _
        (λ (v : Ruling). v ≡ missing to d → out_of self ample (asks_for to d) ≡ [])
        (λ t k. absurd (due-missing _ to d k)) (λ t k. absurd (refusing-missing _ to d k)) e

missing-to : (p q : ℕ) (d x : Bytes) → missing p d ≡ missing q x → p ≡ q
missing-to p q d x h = cc

ask-quiet : (self : Identity) (p : ℕ) (block : Bytes) → (p == self.ring.party) ≡ true → AsksNobody self (ask_in p block)
unfolding ruling
ask-quiet self p block own c to d h =
    subst (λ (q : ℕ). out_of self ample (asks_for q d) ≡ []) (missing-to p to block d h)
    (cond-false (not (p == self.ring.party)) _ _ (not_from_true (p == self.ring.party) own))

due-or-not : (t : Bool) (s : Step) (n : Fault) (to : ℕ) (d : Bytes) → cond t (due s) (refusing n) ≡ missing to d → ⊥
due-or-not true s n to d h = due-missing s to d h
due-or-not false s n to d h = refusing-missing n to d h

-- a block that these sent
abbrev relayed : Identity → List ℕ → Core → Certificate → Branch → Admitted
relayed self senders core q b = record (admitted b core q (findings self core q) true) {
  certificate = without_votes q;
  counted = [];
  senders = senders;
}

relay-quiet : (self : Identity) (senders : List ℕ) (core : Core) (q : Certificate)
    → AsksNobody self (relayed_in senders core q (findings self core q))
unfolding ruling on_relay
relay-quiet self senders core q c to d h = by _ h
  where
    by : (p : Placing) → on_relay self senders core q (findings self core q) c p ≡ missing to d
        → out_of self ample (asks_for to d) ≡ []
    by (stands b) e = absurd (due-missing _ to d e)
    by (grows b) e =
        absurd (due-or-not (are_replicas self.sizes (suc self.sizes.faults) senders)
        (took_block (record (relayed self senders core q b) {
          voted = votes_for self.sizes None (relayed self senders core q b) c;
        })) fault.BadTag to d e)
    by lacks_parent e = absurd (refusing-missing _ to d e)
    by (unfit n) e = absurd (refusing-missing _ to d e)

-- what was checked asks nobody
abbrev CheckedQuiet : Identity → Checked → Type 0
CheckedQuiet self (passes i) = AsksNobody self i
CheckedQuiet self (rejected n) = ⊤

when-quiet : (self : Identity) (ok : Bool) (i : Input) → AsksNobody self i → CheckedQuiet self (when ok i)
when-quiet self true i h = h
when-quiet self false i h = tt

copies-quiet : (self : Identity) (f : Frame) (fs : List Frame) → CheckedQuiet self (check_copies self f fs)
unfolding check_copies
copies-quiet self (frame.block sender core q t) fs =
    when-quiet self (nat_le (length fs) (replicas self.sizes) && list_all (is_copy self core q) fs)
    (relayed_in (map (sender_of self.sizes) fs) core q (findings self core q))
    (relay-quiet self (map (sender_of self.sizes) fs) core q)
copies-quiet self (frame.request c) fs = tt
copies-quiet self (frame.proposal v core q t) fs = tt
copies-quiet self (frame.vote d b) fs = tt
copies-quiet self (frame.new_view v r q t) fs = tt
copies-quiet self (frame.fetch r d t) fs = tt
copies-quiet self (frame.reply r c q x t g) fs = tt

gathered-quiet : (self : Identity) (fs : List Frame) → CheckedQuiet self (check_gathered self fs)
unfolding check_gathered
gathered-quiet self [] = tt
gathered-quiet self (f ∷ fs) = copies-quiet self f (f ∷ fs)

-- ---- effects

-- where nothing is told of refused memory, it is as with ample memory
abbrev Same : Bool → Effect → Effect → Type 0
Same a f g = lacked a (length f.out == 0) f.answer ≡ false → f ≡ g

was-refused : (a silent : Bool) (x : Option Fault) → x ≡ Some fault.Memory → lacked a silent x ≡ false → ⊥
was-refused a silent x e h =
    true≢false (subst (λ (y : Option Fault). lacked a silent y ≡ false) e h)

outs-same : (self : Identity) (m : MemorySupply) (a : Bool) (x : Reaction)
    → lacked a (length (out_of self m x) == 0) (answer_of x) ≡ false
    → (a ≡ false → answer_of x ≡ Some fault.UnknownParent → out_of self ample x ≡ [])
    → out_of self m x ≡ out_of self ample x
outs-same self m a (sends_out out) h q = refl
outs-same self m a (fails n) h q = refl
outs-same self ample a (asks_for to d) h q = refl
outs-same self refused_at_once true (asks_for to d) h q = absurd (true≢false h)
outs-same self refused_at_once false (asks_for to d) h q = sym (q refl refl)
outs-same self (refused_after k) true (asks_for to d) h q = absurd (true≢false h)
outs-same self (refused_after k) false (asks_for to d) h q = sym (q refl refl)

steps-same : (w : World) (p : ℕ) (m : MemorySupply) (i : Input) (a : Bool)
    → (a ≡ false → AsksNobody (self_of w p) i) → Same a (steps p m i w) (steps p ample i w)
unfolding stepped
steps-same w p m i a q h = elim (input-served (self_of w p) m i (w.replica p)) [
  | inl r ↦ absurd (was-refused a _ _ r h)
  | inr e ↦
      let x : Replica × Reaction = step (self_of w p) ample i (w.replica p) in
      let o : out_of (self_of w p) m x.1 ≡ out_of (self_of w p) ample x.1 =
      outs-same (self_of w p) m a x.1
      (subst (λ (y : Replica × Reaction). lacked a (length (out_of (self_of w p) m y.1) == 0) (answer_of y.1) ≡ false) e h)
      (λ k. input-quiet (self_of w p) i (w.replica p) (q k)) in
      ap (λ (y : Replica × Reaction). stepped w p m y) e
      ∙ ap (λ (os : List Sending). record (stepped w p ample x) { out = os }) o
]

checked-same : (w : World) (p : ℕ) (m : MemorySupply) (x : Checked) (a : Bool)
    → (a ≡ false → CheckedQuiet (self_of w p) x) → Same a (on_checked p m x w) (on_checked p ample x w)
checked-same w p m (passes i) a q = steps-same w p m i a q
checked-same w p m (rejected n) a q = λ h. refl

always : (A : Type 0) → true ≡ false → A
always A e = absurd (true≢false e)

-- the same where a test decides
either-same : (a t : Bool) (x y x' y' : Effect) → Same a x x' → Same a y y' → Same a (cond t x y) (cond t x' y')
either-same a true x y x' y' h k = h
either-same a false x y x' y' h k = k

-- ---- clients

abbrev HeardSame : Session × Heard → Session × Heard → Type 0
HeardSame x y = (heard_answer x.1 ≡ Some fault.Memory) ⊎ (x ≡ y)

four-tests : (a b c d : Bool) (p q r s x y : Session × Heard) → HeardSame x y
    → HeardSame (cond a p (cond b q (cond c r (cond d s x)))) (cond a p (cond b q (cond c r (cond d s y))))
four-tests true b c d p q r s x y h = inr refl
four-tests false true c d p q r s x y h = inr refl
four-tests false false true d p q r s x y h = inr refl
four-tests false false false true p q r s x y h = inr refl
four-tests false false false false p q r s x y h = h

reply-same : (me : Client) (m : MemorySupply) (f : Frame) (s : Session)
    → HeardSame (on_reply me m f s) (on_reply me ample f s)
unfolding on_reply
reply-same me ample f s = inr refl
reply-same me refused_at_once (frame.reply r cl q pl tx g) s =
    four-tests (not (cl == me.number)) (not (verify me.ring kind.Reply r (reply_content r cl q pl tx) g))
    (not (s.waiting && (q == s.used))) (is_counted s.tally r) (s, not_counted fault.NotMine)
    (s, not_counted fault.BadTag) (s, not_counted fault.WrongSeq) (s, not_counted fault.Doubled)
    (s, not_counted fault.Memory) (count_reply me (record { replica = r; place = pl; text = tx }) s) (inl refl)
reply-same me (refused_after k) (frame.reply r cl q pl tx g) s =
    four-tests (not (cl == me.number)) (not (verify me.ring kind.Reply r (reply_content r cl q pl tx) g))
    (not (s.waiting && (q == s.used))) (is_counted s.tally r) (s, not_counted fault.NotMine)
    (s, not_counted fault.BadTag) (s, not_counted fault.WrongSeq) (s, not_counted fault.Doubled)
    (s, not_counted fault.Memory) (count_reply me (record { replica = r; place = pl; text = tx }) s) (inl refl)
reply-same me refused_at_once (frame.request c) s = inr refl
reply-same me refused_at_once (frame.proposal v core q t) s = inr refl
reply-same me refused_at_once (frame.vote d b) s = inr refl
reply-same me refused_at_once (frame.new_view v r q t) s = inr refl
reply-same me refused_at_once (frame.fetch r d t) s = inr refl
reply-same me refused_at_once (frame.block r core q t) s = inr refl
reply-same me (refused_after k) (frame.request c) s = inr refl
reply-same me (refused_after k) (frame.proposal v core q t) s = inr refl
reply-same me (refused_after k) (frame.vote d b) s = inr refl
reply-same me (refused_after k) (frame.new_view v r q t) s = inr refl
reply-same me (refused_after k) (frame.fetch r d t) s = inr refl
reply-same me (refused_after k) (frame.block r core q t) s = inr refl

hears-same : (w : World) (c : ℕ) (m : MemorySupply) (f : Frame) (a : Bool) → Same a (hears c m f w) (hears c ample f w)
unfolding told
hears-same w c m f a h = elim (reply-same _ m f (w.session c)) [
  | inl r ↦ absurd (was-refused a _ _ r h)
  | inr e ↦ ap (λ (x : Session × Heard). told w c x) e
]

abbrev SubmittedSame : Session × Submitted → Session × Submitted → Type 0
SubmittedSame x y = (submitted_answer x.1 ≡ Some fault.Memory) ⊎ (x ≡ y)

two-tests : (a b : Bool) (p q x y : Session × Submitted) → SubmittedSame x y
    → SubmittedSame (cond a p (cond b q x)) (cond a p (cond b q y))
two-tests true b p q x y h = inr refl
two-tests false true p q x y h = inr refl
two-tests false false p q x y h = h

submission-same : (me : Client) (m : MemorySupply) (payload : Bytes) (s : Session)
    → SubmittedSame (submission me m payload s) (submission me ample payload s)
unfolding submission
submission-same me ample payload s = inr refl
submission-same me refused_at_once payload s =
    two-tests s.waiting (s.used == (2 ^ 64 - 1)) (s, not_sent fault.Busy) (s, not_sent fault.Spent)
    (s, not_sent fault.Memory)
    (record { used = suc s.used; waiting = true; tally = [] }, sent_request (request_frame me (suc s.used) payload))
    (inl refl)
submission-same me (refused_after k) payload s =
    two-tests s.waiting (s.used == (2 ^ 64 - 1)) (s, not_sent fault.Busy) (s, not_sent fault.Spent)
    (s, not_sent fault.Memory)
    (record { used = suc s.used; waiting = true; tally = [] }, sent_request (request_frame me (suc s.used) payload))
    (inl refl)

submits-same : (w : World) (c : ℕ) (m : MemorySupply) (payload : Bytes) (a : Bool)
    → Same a (submits c m payload w) (submits c ample payload w)
unfolding submitted
submits-same w c m payload a h = elim (submission-same _ m payload (w.session c)) [
  | inl r ↦ absurd (was-refused a _ _ r h)
  | inr e ↦ ap (λ (x : Session × Submitted). submitted w c x) e
]

-- ---- events

comes-same : (w : World) (p : ℕ) (m : MemorySupply) (o : Option Frame) → Same true (comes p m o w) (comes p ample o w)
unfolding comes
comes-same w p m None = λ h. refl
comes-same w p m (Some f) =
    either-same true (is_replica w p) _ _ _ _ (checked-same w p m (check (self_of w p) f) true (always _))
    (hears-same w (client_at p) m f true)

offers-same : (w : World) (p : ℕ) (m : MemorySupply) (o : Option Frame) → Same true (offers p m o w) (offers p ample o w)
unfolding offers
offers-same w p m None = λ h. refl
offers-same w p m (Some f) = checked-same w p m (check_offer (self_of w p) f) true (always _)

-- each party that is told to ask has its own keys
abbrev pub AsksForItself : World → Event → Type 0
AsksForItself w (ask r to d) = (w.ring r).party ≡ r
AsksForItself w e = ⊤

not-back : (b : Bool) → not b ≡ false → b ≡ true
not-back true e = refl
not-back false e = absurd (true≢false e)

acts-same : (w : World) (e : Event) (m : MemorySupply) → AsksForItself w e
    → Same (asks e) (acts w e m) (acts w e ample)
unfolding acts
acts-same w (submit c payload) m own = submits-same w c m payload false
acts-same w (relay k p) m own = comes-same w p m (recorded w k)
acts-same w (inject p bytes read) m own = comes-same w p m read
acts-same w (timeout r) m own = steps-same w r m timeout_in false (λ e. timeout-quiet (self_of w r))
acts-same w (beat r) m own = steps-same w r m beat_in false (λ e. beat-quiet (self_of w r))
acts-same w (prune r height) m own = steps-same w r m (prune_in height) false (λ e. prune-quiet (self_of w r) height)
acts-same w (offer p source) m own = offers-same w p m (frame_of w source)
acts-same w (gather p sources) m own =
    checked-same w p m (check_gathered (self_of w p) (frames_of w sources)) false
    (λ e. gathered-quiet (self_of w p) (frames_of w sources))
acts-same w (leads r d) m own = steps-same w r m (lead_in d) false (λ e. lead-quiet (self_of w r) d)
acts-same w (ask r p d) m own =
    steps-same w r m (ask_in p d) (not (r == p))
    (λ e. ask-quiet (self_of w r) p d
    (subst (λ (q : ℕ). (p == q) ≡ true) (sym own) (eq-eqb p r (sym (eqb-true r p (not-back (r == p) e))))))

pub effect-same : (w : World) (e : Event) (m : MemorySupply) → AsksForItself w e
    → IsSupplied e (effect w (e, m)) → effect w (e, m) ≡ effect w (e, ample)
unfolding effect
effect-same w e m own =
    either-same (asks e) (w.is_faulty (party_of e)) _ _ _ _ (λ h. refl) (acts-same w e m own)

pub happens-same : (w : World) (e : Event) (m : MemorySupply) → AsksForItself w e
    → IsSupplied e (effect w (e, m)) → happens w (e, m) ≡ happens w (e, ample)
unfolding happens
happens-same w e m own h = λ i.
    let f : Effect = effect-same w e m own h i in
    record {
      sizes = w.sizes;
      is_faulty = w.is_faulty;
      ring = w.ring;
      replica = f.replica;
      session = f.session;
      sent =
          w.sent
          ++ map (λ o. record { event = w.now; sender = party_of e; to = o.0; frame = o.1 }) f.out;
      receipts =
          map (λ r. record { event = w.now; client = client_number e; receipt = r }) f.accepted
          ++ w.receipts;
      answers = f.answer ∷ w.answers;
      now = suc w.now;
    }

-- ---- in a run

-- each party that may be told to ask has its own keys
asks-itself : (s : Setting) (w : World) (e : Event) → Holds s → IsIn s w → refusal w e ≡ None → AsksForItself w e
unfolding refusal
asks-itself s w (ask r to d) holds is ok =
    let named = allowed-parts (names_party w (ask r to d)) (names_frame w (ask r to d)) (names_request (ask r to d)) ok in
    let below : is_replica_of w.sizes r ≡ true = (and_parts _ _ named).0 in
    let below_s : is_replica_of s.sizes r ≡ true = subst (λ (z : Sizes). is_replica_of z r ≡ true) is.sizes_are below in
    subst (λ (ring : ℕ → Keyring). (ring r).party ≡ r) (sym is.rings_are)
    (holds.keys r (or_left (is_replica_of s.sizes r) (is_client_of s.sizes r) below_s))
  where
    allowed-parts : (p f q : Bool)
        → (if not p then Some fault.NoSuchParty else (if not f then Some fault.NoSuchFrame else (if not q then Some fault.NotARequest else None))) ≡ None
        → p ≡ true
    allowed-parts true f q h = refl
    allowed-parts false f q h = absurd (none-some fault.NoSuchParty (sym h))
asks-itself s w (submit c payload) holds is ok = tt
asks-itself s w (relay k p) holds is ok = tt
asks-itself s w (inject p bytes read) holds is ok = tt
asks-itself s w (timeout r) holds is ok = tt
asks-itself s w (beat r) holds is ok = tt
asks-itself s w (prune r height) holds is ok = tt
asks-itself s w (offer p source) holds is ok = tt
asks-itself s w (gather p sources) holds is ok = tt
asks-itself s w (leads r d) holds is ok = tt

-- the code's test of an event is the definitions'
asks-is : (reads : List (Option Frame)) (event : code.Event) → asks (event_of reads event) ≡ asks_in event
asks-is reads (Submit client payload) = refl
asks-is reads (Relay frame to) = refl
asks-is reads (Inject to bytes) = refl
asks-is reads (Timeout replica) = refl
asks-is reads (Beat replica) = refl
asks-is reads (Prune replica height) = refl
asks-is reads (Offer to source) = refl
asks-is reads (Gather to sources) = refl
asks-is reads (Lead replica block) = refl
asks-is reads (Ask replica to block) = refl

-- nothing was sent where the record has as many frames as before
silence-is : (n k m : ℕ) → m ≡ n + k → (m == n) ≡ (k == 0)
silence-is n zero m e = eq-eqb m n (omega (arith, e))
silence-is n (suc k) m e =
    ne_eqb m n (λ h. let no : ⊥ = omega (arith, e, h) in no) ∙ sym (ne_eqb (suc k) 0 (λ h. let no : ⊥ = omega (arith, h) in no))

sent-grows : (w : World) (h : Happening) → length (happens w h).sent ≡ length w.sent + length (effect w h).out
unfolding happens
sent-grows w h = length-append w.sent _ ∙ ap (λ (n : ℕ). length w.sent + n) (length-map (effect w h).out _)

answers-grow : (w : World) (h : Happening) → (happens w h).answers ≡ (effect w h).answer ∷ w.answers
unfolding happens
answers-grow w h = refl

-- An event of which nothing tells that memory was refused happened with ample memory.
pub took : (event : code.Event) (old new : Stand) (hs : List Happening) (w : World) (a : Option Fault) (before now : ℕ)
    → Holds old.setting → new.setting ≡ old.setting → StandsAt old hs w → Happened old.setting hs w event new
    → ((gs : List Happening) (v : World) → StandsAt old gs v → before ≡ length v.sent)
    → ((gs : List Happening) (v : World) → StandsAt new gs v → now ≡ length v.sent)
    → ((gs : List Happening) (v : World) (x : Option Fault) (more : List (Option Fault)) → StandsAt new gs v
    → v.answers ≡ x ∷ more → a ≡ x)
    → lacked (asks_in event) (now == before) a ≡ false → Took old new event hs w
took event old new hs w a before now holds same t g was is tells h = record {
  reads = g.is_event.0;
  allowed = subst (λ (e : Event). refusal w e ≡ None) g.is_event.2 g.allowed;
  stands = subst (λ (e : Event). StandsAt new (hs ++ (e, ample) ∷ []) (happens w (e, ample))) g.is_event.2 (record {
    state = g.stands.state;
    goes = g.stands.goes;
    comes = subst (λ (z : Setting). ComesTo z g.stands.state (hs ++ (e, ample) ∷ []) (happens w (e, ample))) (sym same)
        (comes-more old.setting event t.state g.stands.state hs w t.comes (record {
          happening = (e, ample);
          is_event = g.is_event;
          allowed = g.allowed;
          now_at = subst (λ (v : World). IsAt old.setting g.stands.state v) one
              (subst (λ (z : Setting). IsAt z g.stands.state (happens w g.happening)) same g.stands.comes.now_at);
        }));
  });
}
  where
    e : Event
    e = g.happening.0

    f : Effect
    f = effect w g.happening

    silent : (now == before) ≡ (length f.out == 0)
    silent =
        let b = was hs w t in
        let n = is (hs ++ g.happening ∷ []) (happens w g.happening) g.stands in
        let grew = sent-grows w g.happening in
        silence-is before (length f.out) now (n ∙ grew ∙ ap (λ (k : ℕ). k + length f.out) (sym b))

    answered : a ≡ f.answer
    answered =
        tells (hs ++ g.happening ∷ []) (happens w g.happening) f.answer w.answers g.stands (answers-grow w g.happening)

    asked : asks_in event ≡ asks e
    asked = sym (asks-is g.is_event.0 event) ∙ ap asks (sym g.is_event.2)

    supplied : IsSupplied e f
    supplied =
        subst (λ (k : Bool). lacked k (length f.out == 0) f.answer ≡ false) asked
        (subst (λ (b : Bool). lacked (asks_in event) b f.answer ≡ false) silent
        (subst (λ (x : Option Fault). lacked (asks_in event) (now == before) x ≡ false) answered h))

    one : happens w g.happening ≡ happens w (e, ample)
    one = happens-same w e g.happening.1 (asks-itself old.setting w e holds t.comes.now_at.parties.setting g.allowed) supplied

-- ---- the last of a row

last-behind : {A : Type 0} (xs : List A) (a : A) → slice_get (xs ++ a ∷ []) (length xs) ≡ Some a
last-behind [] a = refl
last-behind (x ∷ xs) a = last-behind xs a

pub last-reversed : (xs more : List (Option Fault)) (a : Option Fault) → xs ≡ reverse (a ∷ more)
    → slice_get xs (length xs - 1) ≡ Some a
last-reversed xs more a e =
    let is : xs ≡ reverse more ++ a ∷ [] = e ∙ reverse-append (a ∷ []) more in
    let n : length xs - 1 ≡ length (reverse more) =
    (let k = ap (λ (l : List (Option Fault)). length l) is in let m = length-append (reverse more) (a ∷ []) in omega (arith, k, m)) in
    ap (λ (k : ℕ). slice_get xs k) n ∙ (ap (λ (l : List (Option Fault)). slice_get l (length (reverse more))) is ∙ last-behind (reverse more) a)

pub same-some : (x y : Option Fault) → Some x ≡ Some y → x ≡ y
same-some x y e = cc

pub none-is : (a : Option Fault) → ◌≡◌ {A = Option (Option Fault)} None (Some a) → None ≡ a
none-is a e = let no : ⊥ = cc in absurd no

pub on-ok : (P : Type 0) (r : Result (Unit {0}) Fault) (x : Unit {0}) → P → r ≡ Ok x → OnOk r P
on-ok P (Ok y) x h e = h
on-ok P (Err n) x h e = tt

pub on-err : (P : Type 0) (r : Result (Unit {0}) Fault) (n : Fault) → r ≡ Err n → OnOk r P
on-err P (Err m) n e = tt
on-err P (Ok x) n e = let no : ⊥ = cc in absurd no
