-- What an event that isn't refused comes to.
use Rattle.ids.specs.declared.fault.Fault.{Fault}
use Rattle.ids.specs.declared.fault.Fault.TheVariants as fault
use Rattle.std.proofs.Common.{ℕ, ◌≡◌, ◌≤◌, ◌==◌, not, Bool, true, false, List, [], ◌∷◌, length, refl, sym}
use Rattle.std.proofs.Common.{ap, ◌∙◌, inl, inr, Option}
use Rattle.std.proofs.Common.{Some, None, true≢false}
use Rattle.std.proofs.lemmas.Bool.{and_parts, and_from, cond_both, cond-true, cases_Bool, not_from_false}
use Rattle.std.proofs.lemmas.Bool.{or_cases, leb-true, eqb-true, not-false}
use Rattle.definitions.specs.Keyrings.{client_at}
use Rattle.definitions.specs.Bytes.{Bytes}
use Rattle.definitions.specs.Frames.{Frame}
use Rattle.definitions.specs.FrameLimits.{IsFrame, IsDigest}
use Rattle.definitions.specs.Checks.{Identity}
use Rattle.definitions.specs.Lists.{Among}
use Rattle.definitions.specs.Rulings.{Input, Input.timeout_in, Input.beat_in, Input.prune_in}
use Rattle.definitions.specs.Rulings.{Input.lead_in, Input.ask_in}
use Rattle.definitions.specs.Replicas.{MemorySupply, step}
use Rattle.definitions.specs.Worlds.{World, Source, Event, Event.submit, Event.relay, Event.inject, Event.timeout}
use Rattle.definitions.specs.Worlds.{Event.beat, Event.prune, Event.offer, Event.gather, Event.lead}
use Rattle.definitions.specs.Worlds.{Event.ask, is_replica, is_correct, is_party, self_of}
use Rattle.definitions.specs.Runs.{refusal, names_party}
use Rattle.definitions.specs.Events.{Effect, nothing, stepped, on_checked, hears, submits, comes, recorded}
use Rattle.definitions.specs.Events.{brought, listed, frame_of, frames_of, offers, party_of, acts, effect}
use Rattle.linear_law.proofs.Offers.{IsOffered, offered, IsGathered, gathered}
use Rattle.definitions.specs.Admission.{is_passed, Checked, Checked.passes, Checked.rejected, check, when}
use Rattle.definitions.specs.Admission.{check_offer, check_copies, check_gathered}
use Rattle.definitions.specs.Premises.{admits, admits_in}
use Rattle.linear_law.specs.AsBefore.{IsUsual}
use Rattle.definitions.specs.Frames as frame

abbrev pub is_member : World → ℕ → Bool
is_member = is_correct

-- a frame that an event brings, and that its party admits
pub record Brings (w : World) (e : Event) (f : Frame) : Type 0 where
  pub brings : Among f (brought w e)
  pub is_frame : IsFrame w.sizes f
  pub admitted : admits_in w e f ≡ true

-- how an event makes an input: of a frame that comes or is offered, of frames that come together, or of none
pub data Arises (w : World) (e : Event) : Input → Type 0 where
  of_checked : (f : Frame) (i : Input) → Brings w e f → check (self_of w (party_of e)) f ≡ passes i
      → Arises w e i
  of_offer : (f : Frame) (i : Input) → Brings w e f → IsOffered (self_of w (party_of e)) f i
      → (IsUsual e → ⊥) → Arises w e i
  of_gathered : (i : Input) → ((f : Frame) → Among f (brought w e) → Brings w e f)
      → IsGathered (self_of w (party_of e)) (brought w e) i → (IsUsual e → ⊥) → Arises w e i
  of_timeout : Arises w e timeout_in
  of_beat : Arises w e beat_in
  of_prune : (height : ℕ) → Arises w e (prune_in height)
  of_lead : (d : Bytes) → (IsUsual e → ⊥) → Arises w e (lead_in d)
  of_ask : (replica : ℕ) (d : Bytes) → IsDigest d → Arises w e (ask_in replica d)

pub data Effects (w : World) (e : Event) (m : MemorySupply) : Effect → Type 0 where
  idle : (a : Option Fault) → (a ≡ Some fault.Conflict → ⊥) → Effects w e m (nothing w a)
  step_by : (i : Input) → is_member w (party_of e) ≡ true → Arises w e i
      → Effects w e m
      (stepped w (party_of e) m (step (self_of w (party_of e)) m i (w.replica (party_of e))))
  hearing : (f : Frame) → Among f (brought w e) × IsFrame w.sizes f
      → (admits w (party_of e) f ≡ true → admits_in w e f ≡ true) → is_replica w (party_of e) ≡ false
      → w.is_faulty (party_of e) ≡ false → 256 ≤ party_of e
      → Effects w e m (hears (client_at (party_of e)) m f w)
  submitting : (c : ℕ) (payload : Bytes) → e ≡ submit c payload → w.is_faulty (party_of e) ≡ false
      → Effects w e m (submits c m payload w)

when-bad : (ok : Bool) (i : Input) (n : Fault) → when ok i ≡ rejected n → Some n ≡ Some fault.Conflict → ⊥
when-bad true i n e k = apart e
  where
    apart : passes i ≡ rejected n → ⊥
    apart h = cc
when-bad false i n e k = let a : fault.BadTag ≡ n = cc in let b : n ≡ fault.Conflict = cc in apart (a ∙ b)
  where
    apart : fault.BadTag ≡ fault.Conflict → ⊥
    apart h = cc

not_mine-bad : (n : Fault) → rejected fault.NotMine ≡ rejected n → Some n ≡ Some fault.Conflict → ⊥
not_mine-bad n e k = let a : fault.NotMine ≡ n = cc in let b : n ≡ fault.Conflict = cc in apart (a ∙ b)
  where
    apart : fault.NotMine ≡ fault.Conflict → ⊥
    apart h = cc

check-bad : (self : Identity) (f : Frame) (n : Fault) → check self f ≡ rejected n
    → Some n ≡ Some fault.Conflict → ⊥
unfolding check
check-bad self (frame.request c) n e = when-bad _ _ n e
check-bad self (frame.proposal w c q v) n e = when-bad _ _ n e
check-bad self (frame.vote d b) n e = when-bad _ _ n e
check-bad self (frame.new_view w s q v) n e = when-bad _ _ n e
check-bad self (frame.fetch s d t) n e = when-bad _ _ n e
check-bad self (frame.block s c q t) n e = when-bad _ _ n e
check-bad self (frame.reply r c s p t g) n e = not_mine-bad n e

offer-bad : (self : Identity) (f : Frame) (n : Fault) → check_offer self f ≡ rejected n
    → Some n ≡ Some fault.Conflict → ⊥
unfolding check_offer
offer-bad self (frame.proposal w c q v) n e = when-bad _ _ n e
offer-bad self (frame.new_view w s q v) n e = when-bad _ _ n e
offer-bad self (frame.block s c q t) n e = when-bad _ _ n e
offer-bad self (frame.request c) n e = not_mine-bad n e
offer-bad self (frame.vote d b) n e = not_mine-bad n e
offer-bad self (frame.fetch s d t) n e = not_mine-bad n e
offer-bad self (frame.reply r c s p t g) n e = not_mine-bad n e

copies-bad : (self : Identity) (f : Frame) (fs : List Frame) (n : Fault) → check_copies self f fs ≡ rejected n
    → Some n ≡ Some fault.Conflict → ⊥
unfolding check_copies
copies-bad self (frame.block s c q t) fs n e = when-bad _ _ n e
copies-bad self (frame.proposal w c q v) fs n e = not_mine-bad n e
copies-bad self (frame.new_view w s q v) fs n e = not_mine-bad n e
copies-bad self (frame.request c) fs n e = not_mine-bad n e
copies-bad self (frame.vote d b) fs n e = not_mine-bad n e
copies-bad self (frame.fetch s d t) fs n e = not_mine-bad n e
copies-bad self (frame.reply r c s p t g) fs n e = not_mine-bad n e

gathered-bad : (self : Identity) (fs : List Frame) (n : Fault) → check_gathered self fs ≡ rejected n
    → Some n ≡ Some fault.Conflict → ⊥
unfolding check_gathered
gathered-bad self [] n e =
    λ k. let a : fault.NotAFrame ≡ n = cc in let b : n ≡ fault.Conflict = cc in apart (a ∙ b)
  where
    apart : fault.NotAFrame ≡ fault.Conflict → ⊥
    apart h = cc
gathered-bad self (f ∷ fs) n e = copies-bad self f (f ∷ fs) n e

abbrev code : Fault → Option Fault
code n = Some n

abbrev well : Option Fault
well = None

pub not_conflict : (n : Fault) → (n ≡ fault.Conflict → ⊥) → code n ≡ code fault.Conflict → ⊥
not_conflict n h e = let b : n ≡ fault.Conflict = cc in h b

no_frame-apart : code fault.NotAFrame ≡ code fault.Conflict → ⊥
no_frame-apart e = cc

none-conflict : well ≡ code fault.Conflict → ⊥
none-conflict e = cc

-- what a run does not refuse names a party
pub named : (w : World) (e : Event) → refusal w e ≡ None → names_party w e ≡ true
unfolding refusal
named w e h =
    elim (cases_Bool (names_party w e)) [
      | inl t ↦ t
      | inr f ↦ absurd (some (sym (cond-true _ _ _ (not_from_false _ f)) ∙ h))
    ]
  where
    some : code fault.NoSuchParty ≡ well → ⊥
    some k = cc

party-client : (w : World) (p : ℕ) → is_party w p ≡ true → is_replica w p ≡ false → 256 ≤ p
party-client w p h r = elim (or_cases _ _ h)
    [ inl k ↦ absurd (true≢false (sym k ∙ r)) | inr k ↦ leb-true 256 p (and_parts _ _ k).0 ]

-- what is brought is a frame
abbrev pub ComesFramed : World → Event → Type 0
ComesFramed w e = (f : Frame) → Among f (brought w e) → IsFrame w.sizes f

reply-bad : (self : Identity) (x c s k : ℕ) (t g : Bytes) (i : Input)
    → check self (frame.reply x c s k t g) ≡ passes i → ⊥
unfolding check
reply-bad self x c s k t g i e = apart e
  where
    apart : rejected fault.NotMine ≡ passes i → ⊥
    apart h = cc

pub admits-good : (w : World) (p : ℕ) (f : Frame) (i : Input) → is_replica w p ≡ true
    → check (self_of w p) f ≡ passes i → admits w p f ≡ true
admits-good w p (frame.request c) i r e = and_from _ _ r (ap is_passed e)
admits-good w p (frame.proposal v c q t) i r e = and_from _ _ r (ap is_passed e)
admits-good w p (frame.vote d b) i r e = and_from _ _ r (ap is_passed e)
admits-good w p (frame.new_view v s q t) i r e = and_from _ _ r (ap is_passed e)
admits-good w p (frame.fetch s d t) i r e = and_from _ _ r (ap is_passed e)
admits-good w p (frame.block s c q t) i r e = and_from _ _ r (ap is_passed e)
admits-good w p (frame.reply x c s k t g) i r e = absurd (reply-bad (self_of w p) x c s k t g i e)

-- what a run does not refuse asks for a digest
pub asked-digest : (w : World) (r to : ℕ) (d : Bytes) → refusal w (ask r to d) ≡ None → IsDigest d
unfolding refusal
asked-digest w r to d =
    cond_both (not (names_party w (ask r to d))) _ _ P (λ e k. absurd (some fault.NoSuchParty k)) (λ e.
    cond_both (not (length d == 32)) _ _ P (λ f k. absurd (some fault.NotARequest k))
    (λ f k. eqb-true (length d) 32 (not-false _ f)))
  where
    P : Option Fault → Type 0
    P o = o ≡ None → IsDigest d

    some : (n : Fault) → code n ≡ well → ⊥
    some n k = cc

-- a frame comes
comes-effects : (w : World) (e : Event) (m : MemorySupply) → is_party w (party_of e) ≡ true
    → w.is_faulty (party_of e) ≡ false → ComesFramed w e
    → ((f : Frame) → admits w (party_of e) f ≡ true → admits_in w e f ≡ true) → (o : Option Frame)
    → ((f : Frame) → o ≡ Some f → Among f (brought w e))
    → Effects w e m (comes (party_of e) m o w)
unfolding comes
comes-effects w e m pa ok rd ad None b = idle (Some fault.NotAFrame) no_frame-apart
comes-effects w e m pa ok rd ad (Some f) b =
    cond_both (is_replica w (party_of e)) (on_checked (party_of e) m (check (self_of w (party_of e)) f) w)
    (hears (client_at (party_of e)) m f w) (Effects w e m)
    (λ r. checked (check (self_of w (party_of e)) f) refl r)
    (λ r. hearing f (b f refl, rd f (b f refl)) (ad f) r ok (party-client w (party_of e) pa r))
  where
    checked : (x : Checked) → check (self_of w (party_of e)) f ≡ x → is_replica w (party_of e) ≡ true
        → Effects w e m (on_checked (party_of e) m x w)
    checked (passes i) g r = step_by i (and_from _ _ r (not_from_false _ ok)) (of_checked f i (record {
      brings = b f refl;
      is_frame = rd f (b f refl);
      admitted = ad f (admits-good w (party_of e) f i r g);
    }) g)
    checked (rejected n) g r = idle (Some n) (check-bad (self_of w (party_of e)) f n g)

-- one alone
listed-one : (o : Option Frame) (f : Frame) → o ≡ Some f → Among f (listed o)
listed-one None f e = absurd (none e)
  where
    none : None ≡ Some f → ⊥
    none k = cc
listed-one (Some g) f e = inl (let k : f ≡ g = cc in k)

-- a frame is offered
offers-effects : (w : World) (to : ℕ) (s : Source) (m : MemorySupply) → is_replica w to ≡ true
    → w.is_faulty to ≡ false → ComesFramed w (offer to s) → (o : Option Frame) → frame_of w s ≡ o
    → Effects w (offer to s) m (offers to m o w)
unfolding offers brought party_of
offers-effects w to s m r ok rd None b = idle (Some fault.NotAFrame) no_frame-apart
offers-effects w to s m r ok rd (Some f) b = by (check_offer (self_of w to) f) refl
  where
    there : Among f (listed (frame_of w s))
    there = listed-one (frame_of w s) f b

    by : (x : Checked) → check_offer (self_of w to) f ≡ x → Effects w (offer to s) m (on_checked to m x w)
    by (passes i) g = step_by i (and_from _ _ r (not_from_false _ ok)) (of_offer f i (record {
      brings = there;
      is_frame = rd f there;
      admitted = and_from _ _ r (ap is_passed g);
    }) (offered _ f i g) (λ u. u))
    by (rejected n) g = idle (Some n) (offer-bad (self_of w to) f n g)

-- frames come together
gather-effects : (w : World) (to : ℕ) (ss : List Source) (m : MemorySupply) → is_replica w to ≡ true
    → w.is_faulty to ≡ false → ComesFramed w (gather to ss) → (x : Checked)
    → check_gathered (self_of w to) (frames_of w ss) ≡ x
    → Effects w (gather to ss) m (on_checked to m x w)
unfolding brought party_of
gather-effects w to ss m r ok rd (passes i) g = step_by i (and_from _ _ r (not_from_false _ ok))
    (of_gathered i (λ f n. record {
      brings = n;
      is_frame = rd f n;
      admitted = and_from _ _ r (ap is_passed g);
    }) (gathered _ _ i g) (λ u. u))
gather-effects w to ss m r ok rd (rejected n) g =
    idle (Some n) (gathered-bad (self_of w to) (frames_of w ss) n g)

acts-effects : (w : World) (e : Event) (m : MemorySupply) → ComesFramed w e → refusal w e ≡ None
    → w.is_faulty (party_of e) ≡ false → Effects w e m (acts w e m)
unfolding acts party_of brought
acts-effects w (submit c payload) m rd n ok = submitting c payload refl ok
acts-effects w (relay k to) m rd n ok =
    comes-effects w (relay k to) m (named w (relay k to) n) ok rd (λ f a. a) (recorded w k)
    (λ f e. listed-one (recorded w k) f e)
acts-effects w (inject to bytes f) m rd n ok =
    comes-effects w (inject to bytes f) m (named w (inject to bytes f) n) ok rd (λ f a. a) f
    (λ g e. listed-one f g e)
acts-effects w (timeout r) m rd n ok =
    step_by timeout_in (and_from _ _ (named w (timeout r) n) (not_from_false _ ok)) of_timeout
acts-effects w (beat r) m rd n ok =
    step_by beat_in (and_from _ _ (named w (beat r) n) (not_from_false _ ok)) of_beat
acts-effects w (prune r height) m rd n ok =
    step_by (prune_in height) (and_from _ _ (named w (prune r height) n) (not_from_false _ ok))
    (of_prune height)
acts-effects w (offer to s) m rd n ok =
    offers-effects w to s m (named w (offer to s) n) ok rd (frame_of w s) refl
acts-effects w (gather to ss) m rd n ok =
    gather-effects w to ss m (named w (gather to ss) n) ok rd
    (check_gathered (self_of w to) (frames_of w ss)) refl
acts-effects w (lead r d) m rd n ok =
    step_by (lead_in d) (and_from _ _ (named w (lead r d) n) (not_from_false _ ok)) (of_lead d (λ u. u))
acts-effects w (ask r to d) m rd n ok =
    step_by (ask_in to d)
    (and_from _ _ (and_parts _ _ (named w (ask r to d) n)).0 (not_from_false _ ok))
    (of_ask to d (asked-digest w r to d n))

pub effects : (w : World) (e : Event) (m : MemorySupply) → ComesFramed w e → refusal w e ≡ None
    → Effects w e m (effect w (e, m))
unfolding effect
effects w e m rd n = cond_both (w.is_faulty (party_of e)) (nothing w None) (acts w e m) (Effects w e m)
    (λ f. idle None none-conflict) (λ ok. acts-effects w e m rd n ok)
