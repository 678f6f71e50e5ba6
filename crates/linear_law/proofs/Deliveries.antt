-- Where recorded frames alone come, no tag is forged; nor where nothing forged was passed on before.
use Rattle.ids.specs.declared.fault.Fault.{Fault}
use Rattle.ids.specs.declared.fault.Fault.TheVariants as fault
use Rattle.std.proofs.Common.{ℕ, ◌≡◌, Bool, true, false, List, [], ◌∷◌, ◌++◌, map}
use Rattle.std.proofs.Common.{filter, refl, sym, ap, subst, ◌∙◌, inl, inr}
use Rattle.std.proofs.Common.{Option, Some, None, Ok, option_map, slice_get}
use Rattle.std.specs.Bool.{⊤}
use Rattle.std.specs.List.{AllByRecursion}
use Rattle.std.proofs.lemmas.Bool.{cond_both, and_parts, and_from, not_from_false}
use Rattle.definitions.specs.Lists.{Among}
use Rattle.definitions.specs.Bytes.{Bytes}
use Rattle.definitions.specs.Frames.{Command, Core, Vote, Certificate, Frame, sender_of, content_of}
use Rattle.definitions.specs.Frames.{kind_of, own_tag}
use Rattle.ids.specs.Sizes.{Sizes, client_party}
use Rattle.definitions.specs.Keyrings.{Keyring}
use Rattle.definitions.specs.Chronicles.{Chronicle}
use Rattle.definitions.specs.Checks.{Identity, vote_verifies, command_verifies}
use Rattle.definitions.specs.States.{me}
use Rattle.definitions.specs.Rulings.{Input}
use Rattle.definitions.specs.Rulings.{Input.timeout_in}
use Rattle.definitions.specs.Rulings.{Input.prune_in, Input.lead_in}
use Rattle.definitions.specs.Rulings.{Input.ask_in}
use Rattle.definitions.specs.Rulings.{Input.beat_in}
use Rattle.definitions.specs.Sendings.{To, To.to_party, Sending}
use Rattle.definitions.specs.Replicas.{MemorySupply}
use Rattle.definitions.specs.Replicas.{Replica, Reaction}
use Rattle.definitions.specs.Replicas.{step}
use Rattle.definitions.specs.Sessions.{Session, Submitted}
use Rattle.definitions.specs.Admission.{Checked, Checked.passes, Checked.rejected, check, check_offer}
use Rattle.definitions.specs.Admission.{check_gathered}
use Rattle.definitions.specs.Worlds.{World, Sent, Event, Event.submit, Event.relay, Event.inject}
use Rattle.definitions.specs.Worlds.{Event.timeout, Event.beat, Event.prune, Event.offer, Event.gather}
use Rattle.definitions.specs.Worlds.{Event.lead as leads_from, Event.ask, Source, Source.of_record}
use Rattle.definitions.specs.Worlds.{Source.of_bytes}
use Rattle.definitions.specs.Worlds.{Happening, is_replica, self_of}
use Rattle.definitions.specs.Worlds.{client_of}
use Rattle.definitions.specs.Worlds.{new_world}
use Rattle.definitions.specs.Events.{Effect, nothing, stepped, told, submitted, on_checked, hears}
use Rattle.definitions.specs.Events.{submits, comes, offers, recorded, listed, frame_of, frames_of, brought}
use Rattle.definitions.specs.Events.{party_of, acts, effect, happens}
use Rattle.definitions.specs.Runs.{names_party, refusal, run}
use Rattle.definitions.specs.Premises.{Claim, IsFor, IsTagOf, WasSent, own_claim, vote_claim, vote_claims}
use Rattle.definitions.specs.Premises.{command_claim, command_claims, accepted_tags, admits, admits_in}
use Rattle.definitions.specs.Premises.{IsReadFrom, IsReadIn}
use Rattle.definitions.specs.Premises.{AllRead, NoForgeryIn, NoForgery}
use Rattle.definitions.proofs.Lists.{Among-before, Among-either, Among-filter, Among-map}
use Rattle.definitions.proofs.Certificates.{all-implied}
use Rattle.linear_law.proofs.Inputs.{all-among}
use Rattle.linear_law.proofs.Offers.{IsOffered, offered}
use Rattle.linear_law.proofs.Offers.{IsGathered, gathered}
use Rattle.linear_law.proofs.Effects.{is_member, named}
use Rattle.linear_law.proofs.Submissions.{IsAsked, IsAsked.kept, IsAsked.given, submission-asked}
use Rattle.linear_law.proofs.Linear.{run-step}
use Rattle.linear_law.proofs.WholeRuns.{slice_get-among}
use Rattle.linear_law.proofs.FramedRuns.{put-both}
use Rattle.linear_law.specs.Law.{HaveOwnKeys, IsDeliveredFrom, IsDelivered, AllDelivered, DeliveriesForgeNothing}
use Rattle.definitions.specs.Frames as frame
use Rattle.linear_law.proofs.HeldVotes.{AllVotes}
use Rattle.linear_law.proofs.Made.{Brought, IsAddressed, Passed, IsMadeInput, AreMade, made-more, passed-more}
use Rattle.linear_law.proofs.MadeSteps.{IsMadeAfter, step-made, check-made, offered-made, gathered-made}

-- ---- what an event does

-- the replica that steps in an event is one; a delivery may be to anybody
abbrev pub NamesReplica : World → Event → Type 0
NamesReplica w (submit c payload) = ⊤
NamesReplica w (relay k to) = ⊤
NamesReplica w (inject to bytes f) = ⊤
NamesReplica w (timeout r) = is_replica w r ≡ true
NamesReplica w (beat r) = is_replica w r ≡ true
NamesReplica w (prune r height) = is_replica w r ≡ true
NamesReplica w (offer to source) = is_replica w to ≡ true
NamesReplica w (gather to ss) = is_replica w to ≡ true
NamesReplica w (leads_from r d) = is_replica w r ≡ true
NamesReplica w (ask r to d) = is_replica w r ≡ true

-- it is where the event isn't refused
pub names-replica : (w : World) (e : Event) → names_party w e ≡ true → NamesReplica w e
names-replica w (submit c payload) n = tt
names-replica w (relay k to) n = tt
names-replica w (inject to bytes f) n = tt
names-replica w (timeout r) n = n
names-replica w (beat r) n = n
names-replica w (prune r height) n = n
names-replica w (offer to source) n = n
names-replica w (gather to ss) n = n
names-replica w (leads_from r d) n = n
names-replica w (ask r to d) n = (and_parts _ _ n).0

-- an input that brings no vote and no command
abbrev IsBare : Input → Type 0
IsBare timeout_in = ⊤
IsBare beat_in = ⊤
IsBare (prune_in height) = ⊤
IsBare (lead_in d) = ⊤
IsBare (ask_in r d) = ⊤
IsBare i = ⊥

bare-made : (IsVote : Bytes → Vote → Type 0) (IsCommand : Command → Type 0) (i : Input) → IsBare i
    → IsMadeInput IsVote IsCommand i
bare-made IsVote IsCommand timeout_in h = tt
bare-made IsVote IsCommand beat_in h = tt
bare-made IsVote IsCommand (prune_in height) h = tt
bare-made IsVote IsCommand (lead_in d) h = tt
bare-made IsVote IsCommand (ask_in r d) h = tt
bare-made IsVote IsCommand i h = absurd h

-- an input is of a recorded frame that comes or is offered, of several that come together, or of none
data IsTaken (w : World) (e : Event) (i : Input) : Type 0 where
  by_check : (f : Frame) → Among f (brought w e) → check (self_of w (party_of e)) f ≡ passes i → IsTaken w e i
  by_offer : (f : Frame) → Among f (brought w e) → IsOffered (self_of w (party_of e)) f i → IsTaken w e i
  by_copies : IsGathered (self_of w (party_of e)) (brought w e) i → IsTaken w e i
  by_none : IsBare i → IsTaken w e i

-- nothing to replicas, or a correct replica takes an input, or a client submits
data Moves (w : World) (e : Event) (m : MemorySupply) : Effect → Type 0 where
  still : (f : Effect) → f.replica ≡ w.replica → f.out ≡ [] → Moves w e m f
  taking : (i : Input) → is_member w (party_of e) ≡ true → IsTaken w e i
      → Moves w e m (stepped w (party_of e) m (step (self_of w (party_of e)) m i (w.replica (party_of e))))
  asking : (c : ℕ) (payload : Bytes) → e ≡ submit c payload → Moves w e m (submits c m payload w)

nothing-moves : (w : World) (e : Event) (m : MemorySupply) (a : Option Fault) → Moves w e m (nothing w a)
unfolding nothing
nothing-moves w e m a = still _ refl refl

hears-moves : (w : World) (e : Event) (m : MemorySupply) (c : ℕ) (f : Frame) → Moves w e m (hears c m f w)
unfolding told
hears-moves w e m c f = still _ refl refl

checked-moves : (w : World) (e : Event) (m : MemorySupply) (x : Checked) → is_member w (party_of e) ≡ true
    → ((i : Input) → x ≡ passes i → IsTaken w e i) → Moves w e m (on_checked (party_of e) m x w)
checked-moves w e m (passes i) me h = taking i me (h i refl)
checked-moves w e m (rejected n) me h = nothing-moves w e m (Some n)

-- one alone
listed-there : (w : World) (e : Event) (o : Option Frame) (f : Frame) → brought w e ≡ listed o → o ≡ Some f
    → Among f (brought w e)
listed-there w e o f b k =
    subst (Among f) (sym (b ∙ ap (λ (x : Option Frame). listed x) k)) (inl refl)

comes-moves : (w : World) (e : Event) (m : MemorySupply) → w.is_faulty (party_of e) ≡ false
    → (o : Option Frame) → brought w e ≡ listed o → Moves w e m (comes (party_of e) m o w)
unfolding comes
comes-moves w e m ok None b = nothing-moves w e m (Some fault.NotAFrame)
comes-moves w e m ok (Some f) b =
    cond_both (is_replica w (party_of e)) (on_checked (party_of e) m (check (self_of w (party_of e)) f) w)
    (hears _ m f w) (Moves w e m)
    (λ r. checked-moves w e m (check (self_of w (party_of e)) f) (and_from _ _ r (not_from_false _ ok))
    (λ i g. by_check f (listed-there w e (Some f) f b refl) g))
    (λ r. hears-moves w e m _ f)

offers-moves : (w : World) (e : Event) (m : MemorySupply) → is_member w (party_of e) ≡ true
    → (o : Option Frame) → brought w e ≡ listed o → Moves w e m (offers (party_of e) m o w)
unfolding offers
offers-moves w e m me None b = nothing-moves w e m (Some fault.NotAFrame)
offers-moves w e m me (Some f) b = checked-moves w e m (check_offer (self_of w (party_of e)) f) me
    (λ i g. by_offer f (listed-there w e (Some f) f b refl) (offered _ f i g))

acts-moves : (w : World) (e : Event) (m : MemorySupply) → NamesReplica w e
    → w.is_faulty (party_of e) ≡ false
    → Moves w e m (acts w e m)
unfolding acts party_of brought
acts-moves w (submit c payload) m n ok = asking c payload refl
acts-moves w (relay k to) m n ok = comes-moves w (relay k to) m ok (recorded w k) refl
acts-moves w (inject to bytes f) m n ok = comes-moves w (inject to bytes f) m ok f refl
acts-moves w (timeout r) m n ok =
    taking timeout_in (and_from _ _ n (not_from_false _ ok)) (by_none tt)
acts-moves w (beat r) m n ok =
    taking beat_in (and_from _ _ n (not_from_false _ ok)) (by_none tt)
acts-moves w (prune r height) m n ok =
    taking (prune_in height) (and_from _ _ n (not_from_false _ ok))
    (by_none tt)
acts-moves w (offer to source) m n ok =
    offers-moves w (offer to source) m (and_from _ _ n (not_from_false _ ok))
    (frame_of w source) refl
acts-moves w (gather to ss) m n ok =
    checked-moves w (gather to ss) m (check_gathered (self_of w to) (frames_of w ss))
    (and_from _ _ n (not_from_false _ ok)) (λ i g. by_copies (gathered _ _ i g))
acts-moves w (leads_from r d) m n ok =
    taking (lead_in d) (and_from _ _ n (not_from_false _ ok)) (by_none tt)
acts-moves w (ask r to d) m n ok =
    taking (ask_in to d) (and_from _ _ n (not_from_false _ ok))
    (by_none tt)

effect-moves : (w : World) (e : Event) (m : MemorySupply) → NamesReplica w e → Moves w e m (effect w (e, m))
unfolding effect
effect-moves w e m n = cond_both (w.is_faulty (party_of e)) (nothing w None) (acts w e m) (Moves w e m)
    (λ f. nothing-moves w e m None) (λ ok. acts-moves w e m n ok)

-- ---- a world

module _ (w : World) where
  -- each right tag of a vote, whichever correct replica it is for, was sent by the voter if that is correct
  abbrev pub VoteHolds : List Sent → Bytes → Vote → Type 0
  VoteHolds sent d b =
      (r : ℕ) → is_member w r ≡ true → vote_verifies (self_of w r) d b ≡ true → w.is_faulty b.voter ≡ false
      → WasSent sent (vote_claim (self_of w r) d b)

  -- so was each of a command
  abbrev pub CommandHolds : List Sent → Command → Type 0
  CommandHolds sent k =
      (r : ℕ) → is_member w r ≡ true → command_verifies (self_of w r) k ≡ true
      → w.is_faulty (client_party k.client) ≡ false → WasSent sent (command_claim (self_of w r) k)

  -- what a frame brings, and what a recorded one passes on
  abbrev pub Brings : Frame → Type 0
  Brings = Brought (VoteHolds w.sent) (CommandHolds w.sent)

  abbrev pub IsOwn : List Sent → Sent → Type 0
  IsOwn sent s =
      (s.sender ≡ sender_of w.sizes s.frame) × Passed (VoteHolds sent) (CommandHolds sent) s.frame
      × IsAddressed s.to s.frame

-- each correct replica keeps what holds, and each frame of the record is its sender's own, for whom it may be, and
-- passes that on
pub record IsPassedOn (w : World) : Type 0 where
  pub keys : HaveOwnKeys w
  pub made : (p : ℕ) → is_member w p ≡ true
      → AreMade (VoteHolds w w.sent) (CommandHolds w w.sent) (w.replica p).chronicle
  pub sent : (s : Sent) → Among s w.sent → IsOwn w w.sent s

-- the record grows
module _ (w : World) (sent more : List Sent) where
  was-later : (x : Claim) → WasSent sent x → WasSent (sent ++ more) x
  was-later x h = (h.0, Among-before h.0 sent more h.1, h.2, h.3)

  vote-later : (d : Bytes) (b : Vote) → VoteHolds w sent d b → VoteHolds w (sent ++ more) d b
  vote-later d b h = λ r c v ok. was-later (vote_claim (self_of w r) d b) (h r c v ok)

  command-later : (k : Command) → CommandHolds w sent k → CommandHolds w (sent ++ more) k
  command-later k h = λ r c v ok. was-later (command_claim (self_of w r) k) (h r c v ok)

  passed-later : (f : Frame) → Passed (VoteHolds w sent) (CommandHolds w sent) f
      → Passed (VoteHolds w (sent ++ more)) (CommandHolds w (sent ++ more)) f
  passed-later = passed-more (VoteHolds w sent) (VoteHolds w (sent ++ more)) (CommandHolds w sent)
      (CommandHolds w (sent ++ more)) vote-later command-later

  made-later : (c : Chronicle) → AreMade (VoteHolds w sent) (CommandHolds w sent) c
      → AreMade (VoteHolds w (sent ++ more)) (CommandHolds w (sent ++ more)) c
  made-later = made-more (VoteHolds w sent) (VoteHolds w (sent ++ more)) (CommandHolds w sent)
      (CommandHolds w (sent ++ more)) vote-later command-later

-- a vote or a command that its maker sent holds
sent-brings : (w : World) (s : Sent) (f : Frame) → Among s w.sent → s.frame ≡ f → s.sender ≡ sender_of w.sizes f
    → Passed (VoteHolds w w.sent) (CommandHolds w w.sent) f → Brings w f
sent-brings w s (frame.vote d b) m is by h = λ r c v ok. (
  s,
  m,
  by,
  subst (λ (g : Frame). IsTagOf (vote_claim (self_of w r) d b) s g) (sym is) (refl, refl, refl, tt),
)
sent-brings w s (frame.request k) m is by h = λ r c v ok. (
  s,
  m,
  by,
  subst (λ (g : Frame). IsTagOf (command_claim (self_of w r) k) s g) (sym is) (refl, refl, refl, tt),
)
sent-brings w s (frame.proposal v core q t) m is by h = h
sent-brings w s (frame.block r core q t) m is by h = h
sent-brings w s (frame.new_view v r q t) m is by h = h
sent-brings w s (frame.fetch r d t) m is by h = h
sent-brings w s (frame.reply r c q p t g) m is by h = h

-- so what a recorded frame brings holds
pub recorded-brings : (w : World) (s : Sent) (f : Frame) → IsPassedOn w → Among s w.sent → s.frame ≡ f → Brings w f
recorded-brings w s f a m is =
    let h = subst (λ (g : Frame). (s.sender ≡ sender_of w.sizes g)
    × Passed (VoteHolds w w.sent) (CommandHolds w w.sent) g) is ((a.sent s m).0, (a.sent s m).1) in
    sent-brings w s f m is h.0 h.1

-- what an effect keeps
record KeepsMade (w : World) (e : Event) (f : Effect) : Type 0 where
  made : (p : ℕ) → is_member w p ≡ true
      → AreMade (VoteHolds w w.sent) (CommandHolds w w.sent) (f.replica p).chronicle
  out : (o : Sending) → Among o f.out
      → (party_of e ≡ sender_of w.sizes o.1) × Passed (VoteHolds w w.sent) (CommandHolds w w.sent) o.1
      × IsAddressed o.0 o.1

stepped-made : (w : World) (e : Event) (m : MemorySupply) (r : Replica × Reaction) → IsPassedOn w
    → is_member w (party_of e) ≡ true
    → IsMadeAfter (VoteHolds w w.sent) (CommandHolds w w.sent) (self_of w (party_of e)) m r
    → KeepsMade w e (stepped w (party_of e) m r)
unfolding stepped
stepped-made w e m r a me k = record {
  made = λ q mq. put-both (λ (x : Replica). AreMade (VoteHolds w w.sent) (CommandHolds w w.sent) x.chronicle)
      (party_of e) r.0 w.replica q (λ i. k.chronicle) (a.made q mq);
  out = λ o n. (let h = k.out o n in (sym (a.keys (party_of e) me) ∙ h.0, h.1, h.2));
}

asked-made : (w : World) (e : Event) (c : ℕ) (payload : Bytes) (x : Session × Submitted) → IsPassedOn w
    → e ≡ submit c payload → IsAsked (client_of w c) payload (w.session c) x
    → KeepsMade w e (submitted w c x)
unfolding submitted party_of
asked-made w e c payload x a i (kept n) = record { made = a.made; out = λ o k. absurd k }
asked-made w e c payload x a i given = record {
  made = a.made;
  out = λ o k. elim k [
    | inl j ↦ subst
        (λ (y : Sending). (party_of e ≡ sender_of w.sizes y.1)
        × Passed (VoteHolds w w.sent) (CommandHolds w w.sent) y.1 × IsAddressed y.0 y.1) (sym j)
        (ap party_of i, tt, tt)
    | inr n ↦ absurd n
  ];
}

input-made : (w : World) (e : Event) (i : Input) → ((f : Frame) → Among f (brought w e) → Brings w f) → IsTaken w e i
    → IsMadeInput (VoteHolds w w.sent) (CommandHolds w w.sent) i
input-made w e i h (by_check f b g) =
    check-made (VoteHolds w w.sent) (CommandHolds w w.sent) (self_of w (party_of e)) f i (h f b) g
input-made w e i h (by_offer f b g) =
    offered-made (VoteHolds w w.sent) (CommandHolds w w.sent) (self_of w (party_of e)) f i (h f b) g
input-made w e i h (by_copies g) =
    gathered-made (VoteHolds w w.sent) (CommandHolds w w.sent) (self_of w (party_of e)) (brought w e) i h g
input-made w e i h (by_none k) = bare-made (VoteHolds w w.sent) (CommandHolds w w.sent) i k

moves-made : (w : World) (e : Event) (m : MemorySupply) (f : Effect) → IsPassedOn w
    → ((g : Frame) → Among g (brought w e) → Brings w g) → Moves w e m f → KeepsMade w e f
moves-made w e m f a h (still g r o) = record {
  made = λ p mp. subst
      (λ (row : ℕ → Replica). AreMade (VoteHolds w w.sent) (CommandHolds w w.sent) (row p).chronicle) (sym r)
      (a.made p mp);
  out = λ x k. absurd (subst (λ (l : List Sending). Among x l) o k);
}
moves-made w e m f a h (taking i me ar) =
    stepped-made w e m _ a me (step-made (VoteHolds w w.sent) (CommandHolds w w.sent) (self_of w (party_of e)) m i
    (w.replica (party_of e)) (a.made (party_of e) me) (input-made w e i h ar))
moves-made w e m f a h (asking c payload i) =
    asked-made w e c payload _ a i (submission-asked (client_of w c) m payload (w.session c))

-- each event keeps it, where what it brings holds
pub happens-passed : (w : World) (e : Event) (m : MemorySupply) → IsPassedOn w
    → ((f : Frame) → Among f (brought w e) → Brings w f) → NamesReplica w e → IsPassedOn (happens w (e, m))
unfolding happens
happens-passed w e m a h n = record {
  keys = a.keys;
  made = λ p mp. made-later w w.sent (map record_of f.out) (f.replica p).chronicle (k.made p mp);
  sent = λ s t. elim (Among-either s w.sent _ t) [
    | inl x ↦ (let y = a.sent s x in (y.0, passed-later w w.sent (map record_of f.out) s.frame y.1, y.2))
    | inr x ↦ (
        let i = Among-map record_of f.out s x in
        let y = k.out i.0 i.1 in
        subst (IsOwn w (w.sent ++ map record_of f.out)) (sym i.2)
        (y.0, passed-later w w.sent (map record_of f.out) i.0.1 y.1, y.2)
        )
  ];
}
  where
    f : Effect
    f = effect w (e, m)

    k : KeepsMade w e f
    k = moves-made w e m f a h (effect-moves w e m n)

    record_of : Sending → Sent
    record_of o = record { event = w.now; sender = party_of e; to = o.0; frame = o.1 }

-- ---- recorded frames come

-- a frame is recorded, and for this party
abbrev IsRecorded : World → ℕ → Frame → Type 0
IsRecorded w p f = (s : Sent) × Among s w.sent × (s.frame ≡ f) × IsFor p s.to f

-- that of a number
pub recorded-sent : (w : World) (k : ℕ) (f : Frame) → Among f (listed (recorded w k))
    → (s : Sent) × (slice_get w.sent k ≡ Some s) × Among s w.sent × (s.frame ≡ f)
recorded-sent w k f m = by (slice_get w.sent k) refl m
  where
    by : (o : Option Sent) → slice_get w.sent k ≡ o → Among f (listed (option_map (λ s. s.frame) o))
        → (s : Sent) × (slice_get w.sent k ≡ Some s) × Among s w.sent × (s.frame ≡ f)
    by None i n = absurd n
    by (Some s) i (inl j) = (s, i, slice_get-among w.sent k s i, sym j)
    by (Some s) i (inr n) = absurd n

-- that of a source
source-sent : (w : World) (to : ℕ) (source : Source) (f : Frame) → IsDeliveredFrom w to source
    → Among f (listed (frame_of w source)) → IsRecorded w to f
source-sent w to (of_bytes bytes read) f d m = absurd d
source-sent w to (of_record k) f d m =
    let r = recorded-sent w k f m in
    (r.0, r.2, r.3, subst (λ (g : Frame). IsFor to r.0.to g) r.3 (d r.0 r.1))

-- those of several
sources-sent : (w : World) (to : ℕ) (ss : List Source) (f : Frame) → AllByRecursion (IsDeliveredFrom w to) ss
    → Among f (frames_of w ss) → IsRecorded w to f
sources-sent w to [] f d m = absurd m
sources-sent w to (s ∷ ss) f d m = elim (Among-either f (listed (frame_of w s)) (frames_of w ss) m)
    [ inl k ↦ source-sent w to s f d.0 k | inr k ↦ sources-sent w to ss f d.1 k ]

-- what is brought is a recorded frame, for this party
pub brings-sent : (w : World) (e : Event) (f : Frame) → IsDelivered w e → Among f (brought w e)
    → IsRecorded w (party_of e) f
unfolding brought party_of
brings-sent w (relay k to) f d b = source-sent w to (of_record k) f d b
brings-sent w (submit c payload) f d b = absurd b
brings-sent w (inject to bytes read) f d b = absurd d
brings-sent w (timeout r) f d b = absurd b
brings-sent w (beat r) f d b = absurd b
brings-sent w (prune r height) f d b = absurd b
brings-sent w (offer to source) f d b = source-sent w to source f d b
brings-sent w (gather to ss) f d b = sources-sent w to ss f d b
brings-sent w (leads_from r x) f d b = absurd b
brings-sent w (ask r to x) f d b = absurd b

-- what it brings holds
pub brings-passed : (w : World) (e : Event) (f : Frame) → IsPassedOn w → IsDelivered w e → Among f (brought w e) → Brings w f
brings-passed w e f a d b = let s = brings-sent w e f d b in recorded-brings w s.0 f a s.1 s.2

-- ---- no tag is forged

-- a frame to a replica is for it
abbrev IsOwnFor : ℕ → To → Frame → Type 0
IsOwnFor party to (frame.fetch sender d t) = to ≡ to_party party
IsOwnFor party to (frame.block sender core q t) = to ≡ to_party party
IsOwnFor party to f = ⊤

-- who admits a frame that a replica alone admits is one
admits-replica : (w : World) (e : Event) (f : Frame)
    → ((p : ℕ) → admits w p f ≡ true → is_replica w p ≡ true) → admits_in w e f ≡ true
    → is_replica w (party_of e) ≡ true
unfolding party_of
admits-replica w (submit c payload) f k ad = k (client_party c) ad
admits-replica w (relay n to) f k ad = k to ad
admits-replica w (inject to bytes read) f k ad = k to ad
admits-replica w (timeout r) f k ad = k r ad
admits-replica w (beat r) f k ad = k r ad
admits-replica w (prune r height) f k ad = k r ad
admits-replica w (offer to source) f k ad = (and_parts _ _ ad).0
admits-replica w (gather to ss) f k ad = (and_parts _ _ ad).0
admits-replica w (leads_from r d) f k ad = k r ad
admits-replica w (ask r to d) f k ad = k r ad

-- a correct replica admits all but replies
abbrev IsAtReplica : World → ℕ → Frame → Type 0
IsAtReplica w p (frame.reply r c q x t g) = ⊤
IsAtReplica w p f = is_member w p ≡ true

at-replica : (w : World) (e : Event) (f : Frame) → w.is_faulty (party_of e) ≡ false → admits_in w e f ≡ true
    → IsAtReplica w (party_of e) f
at-replica w e (frame.request c) ok ad =
    and_from _ _ (admits-replica w e (frame.request c) (λ p a. (and_parts _ _ a).0) ad) (not_from_false _ ok)
at-replica w e (frame.proposal v core q t) ok ad =
    and_from _ _ (admits-replica w e (frame.proposal v core q t) (λ p a. (and_parts _ _ a).0) ad) (not_from_false _ ok)
at-replica w e (frame.vote d b) ok ad =
    and_from _ _ (admits-replica w e (frame.vote d b) (λ p a. (and_parts _ _ a).0) ad) (not_from_false _ ok)
at-replica w e (frame.new_view v r q t) ok ad =
    and_from _ _ (admits-replica w e (frame.new_view v r q t) (λ p a. (and_parts _ _ a).0) ad) (not_from_false _ ok)
at-replica w e (frame.fetch r d t) ok ad =
    and_from _ _ (admits-replica w e (frame.fetch r d t) (λ p a. (and_parts _ _ a).0) ad) (not_from_false _ ok)
at-replica w e (frame.block r core q t) ok ad =
    and_from _ _ (admits-replica w e (frame.block r core q t) (λ p a. (and_parts _ _ a).0) ad) (not_from_false _ ok)
at-replica w e (frame.reply r c q x t g) ok ad = tt

-- so it is one for a replica with its own keys
own-for : (w : World) (p : ℕ) (to : To) (f : Frame) → HaveOwnKeys w → IsAtReplica w p f → IsFor p to f
    → IsOwnFor (w.ring p).party to f
own-for w p to (frame.fetch r d t) keys at h = subst (λ (n : ℕ). to ≡ to_party n) (sym (keys p at)) h
own-for w p to (frame.block r core q t) keys at h = subst (λ (n : ℕ). to ≡ to_party n) (sym (keys p at)) h
own-for w p to (frame.request c) keys at h = tt
own-for w p to (frame.proposal v core q t) keys at h = tt
own-for w p to (frame.vote d b) keys at h = tt
own-for w p to (frame.new_view v r q t) keys at h = tt
own-for w p to (frame.reply r c q x t g) keys at h = tt

module _ (w : World) (p : ℕ) where
  abbrev self : Identity
  self = self_of w p

  -- the frame's own
  own-sent : (s : Sent) (f : Frame) → Among s w.sent → s.frame ≡ f → s.sender ≡ sender_of self.sizes f
      → IsFor self.ring.party s.to f → WasSent w.sent (own_claim self f)
  own-sent s f m is by to =
      (s, m, by, subst (λ (g : Frame). IsTagOf (own_claim self f) s g) (sym is) (refl, refl, refl, to))

  -- those of a certificate's votes
  votes-sent : (q : Certificate) (x : Claim) → is_member w p ≡ true → AllVotes (VoteHolds w w.sent) q
      → w.is_faulty x.sender ≡ false → Among x (vote_claims self q) → WasSent w.sent x
  votes-sent q x c h ok m =
      let b = Among-map (vote_claim self q.digest) (filter (vote_verifies self q.digest) q.votes) x m in
      let k = Among-filter (vote_verifies self q.digest) q.votes b.0 b.1 in
      subst (WasSent w.sent) (sym b.2) (all-among (VoteHolds w w.sent q.digest) q.votes b.0 h k.0 p c k.1
      (subst (λ (y : Claim). w.is_faulty y.sender ≡ false) b.2 ok))

  -- those of a block's commands
  commands-sent : (core : Core) (x : Claim) → is_member w p ≡ true
      → AllByRecursion (CommandHolds w w.sent) core.commands → w.is_faulty x.sender ≡ false
      → Among x (command_claims self core) → WasSent w.sent x
  commands-sent core x c h ok m =
      let b = Among-map (command_claim self) (filter (command_verifies self) core.commands) x m in
      let k = Among-filter (command_verifies self) core.commands b.0 b.1 in
      subst (WasSent w.sent) (sym b.2) (all-among (CommandHolds w w.sent) core.commands b.0 h k.0 p c k.1
      (subst (λ (y : Claim). w.is_faulty y.sender ≡ false) b.2 ok))

  -- one alone
  one-sent : (y x : Claim) → WasSent w.sent y → Among x (y ∷ []) → WasSent w.sent x
  one-sent y x h (inl i) = subst (WasSent w.sent) (sym i) h
  one-sent y x h (inr n) = absurd n

  -- all of a frame's
  tags-sent : (f : Frame) (x : Claim) → (s : Sent) → Among s w.sent → s.frame ≡ f
      → s.sender ≡ sender_of self.sizes f → IsOwnFor self.ring.party s.to f
      → IsAtReplica w p f → Passed (VoteHolds w w.sent) (CommandHolds w w.sent) f → w.is_faulty x.sender ≡ false
      → Among x (accepted_tags self f) → WasSent w.sent x
  unfolding accepted_tags
  tags-sent (frame.proposal v core q t) x s m is by to at h ok (inl i) =
      subst (WasSent w.sent) (sym i) (own-sent s (frame.proposal v core q t) m is by to)
  tags-sent (frame.proposal v core q t) x s m is by to at h ok (inr n) =
      elim (Among-either x (vote_claims self q) (command_claims self core) n)
      [ inl j ↦ votes-sent q x at h.1 ok j | inr j ↦ commands-sent core x at h.0 ok j ]
  tags-sent (frame.block r core q t) x s m is by to at h ok (inl i) =
      subst (WasSent w.sent) (sym i) (own-sent s (frame.block r core q t) m is by to)
  tags-sent (frame.block r core q t) x s m is by to at h ok (inr n) =
      elim (Among-either x (vote_claims self q) (command_claims self core) n)
      [ inl j ↦ votes-sent q x at h.1 ok j | inr j ↦ commands-sent core x at h.0 ok j ]
  tags-sent (frame.new_view v r q t) x s m is by to at h ok (inl i) =
      subst (WasSent w.sent) (sym i) (own-sent s (frame.new_view v r q t) m is by to)
  tags-sent (frame.new_view v r q t) x s m is by to at h ok (inr n) = votes-sent q x at h ok n
  tags-sent (frame.reply r c q y t g) x s m is by to at h ok n =
      one-sent _ x (
        s,
        m,
        by,
        subst (λ (z : Frame). IsTagOf
            (record (own_claim self (frame.reply r c q y t g)) { receiver = client_party c }) s z) (sym is)
            (refl, refl, refl, refl),
      ) n
  tags-sent (frame.request c) x s m is by to at h ok n = one-sent _ x (own-sent s (frame.request c) m is by to) n
  tags-sent (frame.vote d b) x s m is by to at h ok n = one-sent _ x (own-sent s (frame.vote d b) m is by to) n
  tags-sent (frame.fetch r d t) x s m is by to at h ok n =
      one-sent _ x (own-sent s (frame.fetch r d t) m is by to) n

-- no event of such a world brings a forged tag
pub no-forgery : (w : World) (e : Event) → IsPassedOn w → IsDelivered w e → NoForgeryIn w e
no-forgery w e a d f b ok ad x n correct =
    let s = brings-sent w e f d b in
    let own = a.sent s.0 s.1 in
    let at = at-replica w e f ok ad in
    tags-sent w (party_of e) f x s.0 s.1 s.2 (own.0 ∙ ap (sender_of w.sizes) s.2)
    (own-for w (party_of e) s.0.to f a.keys at s.3) at
    (subst (Passed (VoteHolds w w.sent) (CommandHolds w w.sent)) s.2 own.1) correct n

-- a whole run
run-forges : (hs : List Happening) (w last : World) → IsPassedOn w → AllDelivered w hs → run w hs ≡ Ok last
    → NoForgery w hs
unfolding run
run-forges [] w last a d e = tt
run-forges (h ∷ hs) w last a d e =
    let r = run-step (refusal w h.0) (run (happens w h) hs) last e in (
      no-forgery w h.0 a d.0,
      run-forges hs (happens w h) last
          (happens-passed w h.0 h.1 a (λ f b. brings-passed w h.0 f a d.0 b) (names-replica w h.0 (named w h.0 r.0))) d.1 r.1,
    )

-- recorded frames are not read
source-read : (sizes : Sizes) (w : World) (to : ℕ) (source : Source) → IsDeliveredFrom w to source
    → IsReadFrom sizes source
source-read sizes w to (of_record k) d = tt
source-read sizes w to (of_bytes bytes read) d = absurd d

pub delivered-read : (sizes : Sizes) (w : World) (e : Event) → IsDelivered w e → IsReadIn sizes e
delivered-read sizes w (submit c payload) d = tt
delivered-read sizes w (relay k to) d = tt
delivered-read sizes w (inject to bytes read) d = absurd d
delivered-read sizes w (timeout r) d = tt
delivered-read sizes w (beat r) d = tt
delivered-read sizes w (prune r height) d = tt
delivered-read sizes w (offer to source) d = source-read sizes w to source d
delivered-read sizes w (gather to ss) d =
    all-implied (IsDeliveredFrom w to) (IsReadFrom sizes) (source-read sizes w to) ss d
delivered-read sizes w (leads_from r x) d = tt
delivered-read sizes w (ask r to x) d = tt

all-read : (sizes : Sizes) (hs : List Happening) (w : World) → AllDelivered w hs → AllRead sizes hs
all-read sizes [] w d = tt
all-read sizes (h ∷ hs) w d = (delivered-read sizes w h.0 d.0, all-read sizes hs (happens w h) d.1)

-- the world at its start
pub new-passed : (sizes : Sizes) (is_faulty : ℕ → Bool) (ring : ℕ → Keyring)
    → HaveOwnKeys (new_world sizes is_faulty ring) → IsPassedOn (new_world sizes is_faulty ring)
unfolding new_world
new-passed sizes is_faulty ring keys = record { keys = keys; made = λ p m. tt; sent = λ s m. absurd m }

-- the law
pub forge-nothing : DeliveriesForgeNothing
forge-nothing sizes is_faulty ring hs last keys d e = (
  all-read sizes hs (new_world sizes is_faulty ring) d,
  run-forges hs (new_world sizes is_faulty ring) last (new-passed sizes is_faulty ring keys) d e,
)
