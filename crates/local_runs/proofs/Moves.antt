-- What an event does to the process to which it comes is what that does alone; nothing else changes.
use Rattle.ids.specs.declared.fault.Fault.{Fault}
use Rattle.std.proofs.Common.{ℕ, ◌≡◌, ◌<◌, ◌≤◌, true, false, List, [], ◌∷◌, ◌++◌, refl, sym}
use Rattle.std.proofs.Common.{nat_lt, nat_le, ap, subst, ◌∙◌, arith, inl, inr, Option, Some, None, true≢false}
use Rattle.std.specs.List.{AllByRecursion}
use Rattle.std.proofs.lemmas.Bool.{cond_both, cond-true, cond-false, and_parts, or_cases, cases_Bool, eq-eqb, ne_eqb}
use Rattle.std.proofs.lemmas.Bool.{leb-true, ltb-true}
use Rattle.ids.specs.Sizes.{replicas, client_party}
use Rattle.definitions.specs.Admission.{Checked, Checked.passes, Checked.rejected, check_gathered}
use Rattle.definitions.specs.Frames.{Frame}
use Rattle.definitions.specs.Keyrings.{client_at}
use Rattle.definitions.specs.Replicas.{MemorySupply, Replica, step}
use Rattle.definitions.specs.Sessions.{Session, submission, on_reply}
use Rattle.definitions.specs.Worlds.{World, Source, Source.of_record, Source.of_bytes, Event, Event.submit, Event.relay}
use Rattle.definitions.specs.Worlds.{Event.inject, Event.timeout, Event.beat, Event.prune, Event.offer, Event.gather}
use Rattle.definitions.specs.Worlds.{Event.lead, Event.ask, Happening, is_replica, is_party, self_of, client_of, put}
use Rattle.definitions.specs.Events.{Effect, nothing, stepped, told, submitted, on_checked, comes, offers, frames_of}
use Rattle.definitions.specs.Events.{listed, party_of, acts, effect}
use Rattle.definitions.specs.Runs.{names_party}
use Rattle.local_runs.specs.Processes.{Deeds, all_read, input_of, takes, replica_step, session_step, client_step}
use Rattle.local_runs.proofs.Told.{IsBytes, BringsBytes, IsTold}

-- a replica, of this number, did this, and nothing else changed
pub record AtReplica (w : World) (p : ℕ) (d : Deeds Replica) (f : Effect) : Type 0 where
  pub own : f.replica p ≡ d.state
  pub others : (q : ℕ) → (q ≡ p → ⊥) → f.replica q ≡ w.replica q
  pub session : f.session ≡ w.session
  pub sent : f.out ≡ d.sent
  pub accepted : f.accepted ≡ []
  pub none : d.accepted ≡ []

-- so did a client
pub record AtClient (w : World) (c : ℕ) (d : Deeds Session) (f : Effect) : Type 0 where
  pub own : f.session c ≡ d.state
  pub others : (q : ℕ) → (q ≡ c → ⊥) → f.session q ≡ w.session q
  pub replica : f.replica ≡ w.replica
  pub sent : f.out ≡ d.sent
  pub accepted : f.accepted ≡ d.accepted

-- where a faulty party is named, nothing changes
pub data Moves (w : World) (h : Happening) : Effect → Type 0 where
  at_none : w.is_faulty (party_of h.0) ≡ true → Moves w h (nothing w None)
  at_replica : (f : Effect) → w.is_faulty (party_of h.0) ≡ false → is_replica w (party_of h.0) ≡ true
      → AtReplica w (party_of h.0) (replica_step (self_of w (party_of h.0)) h (w.replica (party_of h.0))) f
      → Moves w h f
  at_client : (c : ℕ) (f : Effect) → w.is_faulty (party_of h.0) ≡ false → party_of h.0 ≡ client_party c
      → c < w.sizes.clients → AtClient w c (client_step (client_of w c) h (w.session c)) f
      → Moves w h f

-- the numbers of replicas are below those of clients
abbrev pub AreApart : World → Type 0
AreApart w = replicas w.sizes ≤ 256

pub no-replica : (w : World) (c : ℕ) → AreApart w → is_replica w (client_party c) ≡ true → ⊥
no-replica w c a r =
    let l = ltb-true (client_party c) (replicas w.sizes) r in omega (arith, l, a)

-- ---- rows

put-own : {A : Type 0} (p : ℕ) (x : A) (row : ℕ → A) → put p x row p ≡ x
put-own p x row = cond-true _ _ _ (eq-eqb p p refl)

put-other : {A : Type 0} (p q : ℕ) (x : A) (row : ℕ → A) → (q ≡ p → ⊥) → put p x row q ≡ row q
put-other p q x row h = cond-false _ _ _ (ne_eqb q p h)

-- ---- a replica

-- a check's outcome in the world, and alone
checked-alone : (w : World) (p : ℕ) (m : MemorySupply) (x : Checked)
    → AtReplica w p (takes (self_of w p) m x (w.replica p)) (on_checked p m x w)
unfolding stepped nothing
checked-alone w p m (passes i) =
    let r = step (self_of w p) m i (w.replica p) in
    record {
      own = put-own p r.0 w.replica;
      others = λ q h. put-other p q r.0 w.replica h;
      session = refl;
      sent = refl;
      accepted = refl;
      none = refl;
    }
checked-alone w p m (rejected n) =
    record { own = refl; others = λ q h. refl; session = refl; sent = refl; accepted = refl; none = refl }

-- the frames of several sources
frames-read : (w : World) (ss : List Source) → AllByRecursion IsBytes ss → frames_of w ss ≡ all_read ss
frames-read w [] a = refl
frames-read w (of_record k ∷ ss) a = absurd a.0
frames-read w (of_bytes bytes read ∷ ss) a = ap (λ (fs : List Frame). listed read ++ fs) (frames-read w ss a.1)

-- an event at a replica is a check of its input
acts-replica : (w : World) (e : Event) (m : MemorySupply) → AreApart w → BringsBytes e
    → is_replica w (party_of e) ≡ true
    → acts w e m ≡ on_checked (party_of e) m (input_of (self_of w (party_of e)) e) w
unfolding acts party_of input_of comes offers
acts-replica w (submit c payload) m a b r = absurd (no-replica w c a r)
acts-replica w (relay k to) m a b r = absurd b
acts-replica w (inject to bytes None) m a b r = refl
acts-replica w (inject to bytes (Some f)) m a b r = cond-true _ _ _ r
acts-replica w (timeout p) m a b r = refl
acts-replica w (beat p) m a b r = refl
acts-replica w (prune p height) m a b r = refl
acts-replica w (offer to (of_record k)) m a b r = absurd b
acts-replica w (offer to (of_bytes bytes None)) m a b r = refl
acts-replica w (offer to (of_bytes bytes (Some f))) m a b r = refl
acts-replica w (gather to ss) m a b r =
    ap (λ (fs : List Frame). on_checked to m (check_gathered (self_of w to) fs) w) (frames-read w ss b)
acts-replica w (lead p d) m a b r = refl
acts-replica w (ask p to d) m a b r = refl

replica-moves : (w : World) (h : Happening) → AreApart w → BringsBytes h.0 → w.is_faulty (party_of h.0) ≡ false
    → is_replica w (party_of h.0) ≡ true → Moves w h (acts w h.0 h.1)
replica-moves w h a b ok r = at_replica (acts w h.0 h.1) ok r
    (subst (AtReplica w (party_of h.0) (replica_step (self_of w (party_of h.0)) h (w.replica (party_of h.0))))
    (sym (acts-replica w h.0 h.1 a b r))
    (checked-alone w (party_of h.0) h.1 (input_of (self_of w (party_of h.0)) h.0)))

-- ---- a client

-- nothing, in the world and alone
idle-client : (w : World) (c : ℕ) (a : Option Fault) (d : Deeds Session)
    → d ≡ record { state = w.session c; sent = []; accepted = [] } → AtClient w c d (nothing w a)
unfolding nothing
idle-client w c a d e = subst (λ (x : Deeds Session). AtClient w c x (nothing w a)) (sym e)
    (record { own = refl; others = λ q h. refl; replica = refl; sent = refl; accepted = refl })

-- a client's number, of its party's
pub client-number : (w : World) (to : ℕ) → is_party w to ≡ true → is_replica w to ≡ false
    → (to ≡ client_party (client_at to)) × (client_at to < w.sizes.clients)
client-number w to p r = elim (or_cases _ _ p) [
  | inl k ↦ absurd (true≢false (sym k ∙ r))
  | inr k ↦
      (let q = and_parts (nat_le (client_party 0) to) (nat_lt to (client_party w.sizes.clients)) k in
      let low : client_party 0 ≤ to = leb-true _ _ q.0 in
      let high : to < client_party w.sizes.clients = ltb-true _ _ q.1 in
      (omega (arith, low), omega (arith, low, high)))
]

-- an event at a client
client-moves : (w : World) (e : Event) (m : MemorySupply) → BringsBytes e → names_party w e ≡ true
    → w.is_faulty (party_of e) ≡ false → is_replica w (party_of e) ≡ false → Moves w (e, m) (acts w e m)
unfolding acts party_of comes session_step told submitted
client-moves w (submit c payload) m b n ok r =
    let x = submission (client_of w c) m payload (w.session c) in
    at_client c _ ok refl (ltb-true _ _ n) (record {
      own = put-own c x.0 w.session;
      others = λ q h. put-other c q x.0 w.session h;
      replica = refl;
      sent = refl;
      accepted = refl;
    })
client-moves w (relay k to) m b n ok r = absurd b
client-moves w (inject to bytes None) m b n ok r =
    let k = client-number w to n r in
    at_client (client_at to) _ ok k.0 k.1 (idle-client w (client_at to) _ _ refl)
client-moves w (inject to bytes (Some f)) m b n ok r =
    let k = client-number w to n r in
    let c : ℕ = client_at to in
    let x = on_reply (client_of w c) m f (w.session c) in
    at_client c _ ok k.0 k.1 (subst (AtClient w c (client_step (client_of w c) (inject to bytes (Some f), m) (w.session c)))
    (sym (cond-false _ _ _ r)) (record {
      own = put-own c x.0 w.session;
      others = λ q h. put-other c q x.0 w.session h;
      replica = refl;
      sent = refl;
      accepted = refl;
    }))
client-moves w (timeout p) m b n ok r = absurd (true≢false (sym n ∙ r))
client-moves w (beat p) m b n ok r = absurd (true≢false (sym n ∙ r))
client-moves w (prune p height) m b n ok r = absurd (true≢false (sym n ∙ r))
client-moves w (offer to source) m b n ok r = absurd (true≢false (sym n ∙ r))
client-moves w (gather to ss) m b n ok r = absurd (true≢false (sym n ∙ r))
client-moves w (lead p d) m b n ok r = absurd (true≢false (sym n ∙ r))
client-moves w (ask p to d) m b n ok r = absurd (true≢false (sym (and_parts _ _ n).0 ∙ r))

-- ---- each event

pub moves : (w : World) (h : Happening) → AreApart w → IsTold w h → Moves w h (effect w h)
unfolding effect
moves w h a t = cond_both (w.is_faulty (party_of h.0)) (nothing w None) (acts w h.0 h.1) (Moves w h)
    (λ f. at_none f) (λ ok. elim (cases_Bool (is_replica w (party_of h.0))) [
      | inl r ↦ replica-moves w h a t.bytes ok r
      | inr r ↦ client-moves w h.0 h.1 t.bytes t.party ok r
    ])
