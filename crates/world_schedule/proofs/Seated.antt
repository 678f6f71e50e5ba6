-- What one party does is what the definitions' world does with it.
use Rattle.ids.specs.declared.fault.Fault.{Fault}
use Rattle.std.proofs.Common.{ℕ, IfOk, Result, Ok, Err, ◌≡◌, ◌≢◌, ◌+◌, ◌<◌, ◌≤◌, ◌==◌, true, List}
use Rattle.std.proofs.Common.{[], ◌∷◌, ◌++◌, length, map, refl, sym, ap, subst, ◌∙◌, inl, inr, arith}
use Rattle.std.proofs.Common.{Option, Some, None}
use Rattle.std.specs.Prelude.{slice_index_or, slice_set}
use Rattle.std.specs.Option.{option_to_list}
use Rattle.std.proofs.lemmas.Bool.{cond_both, cond-true, cases_eq, cases_lt, eqb-true, eq-eqb, lt-ltb}
use Rattle.std.proofs.lemmas.Bool.{ltb-true}
use Rattle.std.proofs.lemmas.List.{get_or-set_same, get_or-set_other, get_or_append_left, get_or_at}
use Rattle.std.proofs.lemmas.List.{length-set, length-append}
use Rattle.ids.specs.Sizes.{Sizes, AreSizes, replicas, client_party}
use Rattle.definitions.specs.Bytes.{Bytes}
use Rattle.definitions.specs.Frames.{Frame}
use Rattle.definitions.specs.FrameLimits.{IsReadAs}
use Rattle.definitions.specs.Keyrings.{Keyring, Keys, keyring_of, client_at}
use Rattle.definitions.specs.Checks.{Identity, identity_of}
use Rattle.definitions.specs.Rulings.{Input}
use Rattle.definitions.specs.Admission.{Checked, Checked.passes, Checked.rejected, check, check_offer}
use Rattle.definitions.specs.Admission.{check_gathered}
use Rattle.std.specs.List.{flat_map}
use Rattle.std.specs.Borrow.{Bor}
use Rattle.admission.specs.Gathering.{AreReadAs}
use Rattle.definitions.specs.Replicas as replicas
use Rattle.definitions.specs.Replicas.{MemorySupply, Reaction, step}
use Rattle.definitions.specs.Sessions.{Client, Session, Heard, submission, on_reply}
use Rattle.definitions.specs.Worlds.{World, is_replica, self_of, put, new_world}
use Rattle.definitions.specs.Worlds as worlds
use Rattle.definitions.specs.Events as events
use Rattle.definitions.specs.Events.{nothing, stepped, told, submitted, on_checked, comes, offers, listed}
use Rattle.signed_frames.specs.Clients.{client_of}
use Rattle.replica.specs.Steps as steps
use Rattle.signed_frames.specs.Outs.{sent_of}
use Rattle.client_accept.specs.Sessions as sessions
use Rattle.world_schedule.specs.declared.effect.Effect.{Effect}
use Rattle.world_schedule.specs.declared.event.Source.{Source}
use Rattle.world_schedule.specs.declared.outcome.SentFrame.{SentFrame}
use Rattle.world_schedule.specs.Sources.{AreBytesOf}
use Rattle.world_schedule.specs.Settings.{Setting, start_of}
use Rattle.world_schedule.specs.Turns.{Tells, admits, checked, TellsReaction, Takes, TakesBytes, TakesCopies}
use Rattle.world_schedule.specs.Turns.{hears, Submits}
use Rattle.world_schedule.specs.Turns.{Hears}
use Rattle.world_schedule.specs.Seats.{HasKeysOf, IsIn, EachBelow, IsNewReplica, IsNewSession, with_effect}
use Rattle.world_schedule.specs.Seats.{AreSeated, AreOf, Brings, Offers, Gathers, Hands, Moves}

-- ---- rows

-- one more
pub one_more : {A : Type 0} (P : ℕ → A → Type 0) (n : ℕ) (row : List A) (x : A) → EachBelow P n row → P n x
    → EachBelow P (n + 1) (row ++ x ∷ [])
one_more P n row x h p = record {
  count = (let l = h.count in let a = length-append row (x ∷ []) in omega (arith, l, a));
  each = λ i d l. elim (cases_lt i n) [
    | inl k ↦ subst (P i)
        (sym (get_or_append_left row (x ∷ []) d i (let e = h.count in omega (arith, k, e)))) (h.each i d k)
    | inr k ↦ (let e : i ≡ n = omega (arith, k, l) in
        subst (λ (j : ℕ). P j (slice_index_or (row ++ x ∷ []) j d)) (sym e)
        (subst (P n) (sym (get_or_at row x [] d n h.count)) p))
  ];
}

-- none
pub none_below : {A : Type 0} (P : ℕ → A → Type 0) (row : List A) → row ≡ [] → EachBelow P 0 row
none_below P row e = record { count = ap length e; each = λ i d l. absurd (omega (arith, l)) }

-- ---- the world of a setting

-- who a replica is
self-is : (s : Setting) (w : World) (p : ℕ) (keys : Keys) → IsIn s w → HasKeysOf s p keys
    → identity_of keys ≡ self_of w p
self-is s w p keys i k =
    let sizes : keys.sizes ≡ w.sizes = k.sizes_are ∙ sym i.sizes_are in
    let ring : keyring_of keys ≡ w.ring p = k.ring_is ∙ sym (ap (λ (f : ℕ → Keyring). f p) i.rings_are) in
    λ j. record { sizes = sizes j; ring = ring j }

-- who a client is
client-is : (s : Setting) (w : World) (c : ℕ) (keys : Keys) → IsIn s w → HasKeysOf s (client_party c) keys
    → client_of keys ≡ worlds.client_of w c
client-is s w c keys i k =
    let sizes : keys.sizes ≡ w.sizes = k.sizes_are ∙ sym i.sizes_are in
    let ring : keyring_of keys ≡ w.ring (client_party c) =
    k.ring_is ∙ sym (ap (λ (f : ℕ → Keyring). f (client_party c)) i.rings_are) in
    let number : client_at keys.party ≡ c = ap client_at k.party_is ∙ omega arith in
    λ j. record { sizes = sizes j; number = number j; ring = ring j }

-- all parties at the start
pub seated-first : (s : Setting) (held : List steps.Held) (seats : List sessions.Held)
    → EachBelow (IsNewReplica s) (replicas s.sizes) held → EachBelow (IsNewSession s) s.sizes.clients seats
    → AreOf s held seats (start_of s)
unfolding new_world
seated-first s held seats h k = record {
  setting = record { sizes_are = refl; faulty_are = refl; rings_are = refl };
  seated = record {
    replica_count = h.count;
    session_count = k.count;
    replica_keys = λ i d l. (h.each i d l).keys;
    session_keys = λ c d l. (k.each c d l).keys;
  };
  replicas_are = λ i d l. (h.each i d l).state;
  sessions_are = λ c d l. (k.each c d l).state;
}

-- ---- one party moves

module _ (s : Setting) (held : List steps.Held) (seats : List sessions.Held) (w : World)
    (at : AreOf s held seats w) where
  -- a replica is put in its place
  replica-moved : (p : ℕ) (new : steps.Held) (row : ℕ → replicas.Replica) → p < replicas s.sizes
      → HasKeysOf s p new.keys → new.replica ≡ row p → ((j : ℕ) → j ≢ p → w.replica j ≡ row j)
      → AreOf s (slice_set held p new) seats (record w { replica = row })
  replica-moved p new row l keys here there = record {
    setting = record {
      sizes_are = at.setting.sizes_are;
      faulty_are = at.setting.faulty_are;
      rings_are = at.setting.rings_are;
    };
    seated = record {
      replica_count = length-set held p new ∙ at.seated.replica_count;
      session_count = at.seated.session_count;
      replica_keys = λ i d k. place (λ (j : ℕ) (h : steps.Held). HasKeysOf s j h.keys) i d keys
          (at.seated.replica_keys i d k);
      session_keys = at.seated.session_keys;
    };
    replicas_are = λ i d k. place-apart i d here (λ n. at.replicas_are i d k ∙ there i n);
    sessions_are = at.sessions_are;
  }
    where
      within : p < length held
      within = let e = at.seated.replica_count in omega (arith, l, e)

      place : (P : ℕ → steps.Held → Type 0) (i : ℕ) (d : steps.Held) → P p new
          → P i (slice_index_or held i d) → P i (slice_index_or (slice_set held p new) i d)
      place P i d x y = elim (cases_eq i p) [
        | inl e ↦ subst (λ (j : ℕ). P j (slice_index_or (slice_set held p new) j d)) (sym e)
            (subst (P p) (sym (get_or-set_same held p new d within)) x)
        | inr n ↦ subst (P i) (sym (get_or-set_other held p i new d n)) y
      ]

      place-apart : (i : ℕ) (d : steps.Held) → new.replica ≡ row p
          → (i ≢ p → (slice_index_or held i d).replica ≡ row i)
          → (slice_index_or (slice_set held p new) i d).replica ≡ row i
      place-apart i d x y = elim (cases_eq i p) [
        | inl e ↦ subst (λ (j : ℕ). (slice_index_or (slice_set held p new) j d).replica ≡ row j) (sym e)
            (subst (λ (h : steps.Held). h.replica ≡ row p) (sym (get_or-set_same held p new d within)) x)
        | inr n ↦
            subst (λ (h : steps.Held). h.replica ≡ row i) (sym (get_or-set_other held p i new d n)) (y n)
      ]

  -- a client is put in its place
  session-moved : (c : ℕ) (new : sessions.Held) (row : ℕ → Session) → c < s.sizes.clients
      → HasKeysOf s (client_party c) new.keys → new.session ≡ row c
      → ((j : ℕ) → j ≢ c → w.session j ≡ row j)
      → AreOf s held (slice_set seats c new) (record w { session = row })
  session-moved c new row l keys here there = record {
    setting = record {
      sizes_are = at.setting.sizes_are;
      faulty_are = at.setting.faulty_are;
      rings_are = at.setting.rings_are;
    };
    seated = record {
      replica_count = at.seated.replica_count;
      session_count = length-set seats c new ∙ at.seated.session_count;
      replica_keys = at.seated.replica_keys;
      session_keys = λ i d k. place (λ (j : ℕ) (h : sessions.Held). HasKeysOf s (client_party j) h.keys) i d
          keys (at.seated.session_keys i d k);
    };
    replicas_are = at.replicas_are;
    sessions_are = λ i d k. place-apart i d here (λ n. at.sessions_are i d k ∙ there i n);
  }
    where
      within : c < length seats
      within = let e = at.seated.session_count in omega (arith, l, e)

      place : (P : ℕ → sessions.Held → Type 0) (i : ℕ) (d : sessions.Held) → P c new
          → P i (slice_index_or seats i d) → P i (slice_index_or (slice_set seats c new) i d)
      place P i d x y = elim (cases_eq i c) [
        | inl e ↦ subst (λ (j : ℕ). P j (slice_index_or (slice_set seats c new) j d)) (sym e)
            (subst (P c) (sym (get_or-set_same seats c new d within)) x)
        | inr n ↦ subst (P i) (sym (get_or-set_other seats c i new d n)) y
      ]

      place-apart : (i : ℕ) (d : sessions.Held) → new.session ≡ row c
          → (i ≢ c → (slice_index_or seats i d).session ≡ row i)
          → (slice_index_or (slice_set seats c new) i d).session ≡ row i
      place-apart i d x y = elim (cases_eq i c) [
        | inl e ↦ subst (λ (j : ℕ). (slice_index_or (slice_set seats c new) j d).session ≡ row j) (sym e)
            (subst (λ (h : sessions.Held). h.session ≡ row c) (sym (get_or-set_same seats c new d within))
            x)
        | inr n ↦
            subst (λ (h : sessions.Held). h.session ≡ row i) (sym (get_or-set_other seats c i new d n)) (y n)
      ]

  -- what is put in a row stands there
  put-here : {A : Type 0} (p : ℕ) (x : A) (row : ℕ → A) → x ≡ put p x row p
  put-here p x row = sym (cond-true (p == p) x (row p) (eq-eqb p p refl))

  -- and leaves the others
  put-there : {A : Type 0} (p : ℕ) (x : A) (row : ℕ → A) (j : ℕ) → j ≢ p → row j ≡ put p x row j
  put-there p x row j n =
      cond_both (j == p) x (row j) (λ y. row j ≡ y) (λ e. absurd (n (eqb-true j p e))) (λ e. refl)

  -- ---- a replica

  -- a reaction in the world
  reacts : (p : ℕ) (m : MemorySupply) (new : steps.Held) (e : Effect) (r : replicas.Replica × Reaction)
      → p < replicas s.sizes → HasKeysOf s p new.keys → new.replica ≡ r.0
      → TellsReaction (self_of w p) m r.1 e
      → AreOf s (slice_set held p new) seats (with_effect w (stepped w p m r))
      × Tells (stepped w p m r) (client_at p) e
  unfolding stepped
  reacts p m new e r l keys is tells = (
    replica-moved p new (put p r.0 w.replica) l keys (is ∙ put-here p r.0 w.replica)
        (put-there p r.0 w.replica),
    record { out = tells.out; accepted = ap option_to_list tells.accepted; answer = tells.answer },
  )

  -- a refusal in the world
  refuses : (p : ℕ) (m : MemorySupply) (new : steps.Held) (e : Effect) (n : Fault) → p < replicas s.sizes
      → HasKeysOf s p new.keys → new.replica ≡ w.replica p
      → TellsReaction (self_of w p) m (replicas.fails n) e
      → AreOf s (slice_set held p new) seats (with_effect w (nothing w (Some n)))
      × Tells (nothing w (Some n)) (client_at p) e
  unfolding nothing
  refuses p m new e n l keys is tells = (
    replica-moved p new w.replica l keys is (λ j k. refl),
    record { out = tells.out; accepted = ap option_to_list tells.accepted; answer = tells.answer },
  )

  -- it is a replica of the world
  is-one : (p : ℕ) → p < replicas s.sizes → is_replica w p ≡ true
  is-one p l = lt-ltb p (replicas w.sizes) (let e : replicas w.sizes ≡ replicas s.sizes =
      ap replicas at.setting.sizes_are in omega (arith, l, e))

  -- a frame that was checked comes
  on-checked : (p : ℕ) (m : MemorySupply) (new : steps.Held) (e : Effect) (x : Checked) → p < replicas s.sizes
      → HasKeysOf s p new.keys → new.replica ≡ (admits (self_of w p) m x (w.replica p)).0
      → TellsReaction (self_of w p) m (admits (self_of w p) m x (w.replica p)).1 e
      → AreOf s (slice_set held p new) seats (with_effect w (on_checked p m x w))
      × Tells (on_checked p m x w) (client_at p) e
  on-checked p m new e (passes i) l keys is tells =
      reacts p m new e (step (self_of w p) m i (w.replica p)) l keys is tells
  on-checked p m new e (rejected n) l keys is tells = refuses p m new e n l keys is tells

  -- what was checked came to it, whoever it is
  pub replica-takes : (p : ℕ) (x : Identity → Checked) (old new : steps.Held) (e : Effect)
      → p < replicas s.sizes → old ≡ slice_index_or held p old → new.keys ≡ old.keys
      → Takes (identity_of old.keys) (x (identity_of old.keys)) old.replica new.replica e
      → (m : MemorySupply)
      × AreOf s (slice_set held p new) seats (with_effect w (on_checked p m (x (self_of w p)) w))
      × Tells (on_checked p m (x (self_of w p)) w) (client_at p) e
  replica-takes p x old new e l here same t =
      let k : HasKeysOf s p old.keys =
      subst (λ (h : steps.Held). HasKeysOf s p h.keys) (sym here) (at.seated.replica_keys p old l) in
      let mine : HasKeysOf s p new.keys = subst (HasKeysOf s p) (sym same) k in
      let state : old.replica ≡ w.replica p =
      ap (λ (h : steps.Held). h.replica) here ∙ at.replicas_are p old l in
      let y : Takes (self_of w p) (x (self_of w p)) (w.replica p) new.replica e =
      subst (λ (i : Identity). Takes i (x i) (w.replica p) new.replica e) (self-is s w p old.keys at.setting k)
      (subst (λ (r : replicas.Replica). Takes (identity_of old.keys) (x (identity_of old.keys)) r new.replica e)
      state t) in
      let done = on-checked p y.memory new e (x (self_of w p)) l mine y.state y.tells in
      (y.memory, done.0, done.1)

  -- the sizes of its keys
  its-sizes : (p : ℕ) (old : steps.Held) → p < replicas s.sizes → old ≡ slice_index_or held p old
      → old.keys.sizes ≡ s.sizes
  its-sizes p old l here =
      (subst (λ (h : steps.Held). HasKeysOf s p h.keys) (sym here) (at.seated.replica_keys p old l)).sizes_are

  -- bytes that come are checked so
  comes-checked : (p : ℕ) (m : MemorySupply) (read : Option Frame) → p < replicas s.sizes
      → comes p m read w ≡ on_checked p m (checked check (self_of w p) read) w
  unfolding comes
  comes-checked p m None l = refl
  comes-checked p m (Some f) l = cond-true (is_replica w p) _ _ (is-one p l)

  -- and offered ones so
  offers-checked : (p : ℕ) (m : MemorySupply) (read : Option Frame)
      → offers p m read w ≡ on_checked p m (checked check_offer (self_of w p) read) w
  unfolding offers
  offers-checked p m None = refl
  offers-checked p m (Some f) = refl

  pub replica-brings : (p : ℕ) (bytes : Bytes) (old new : steps.Held) (e : Effect) → p < replicas s.sizes
      → old ≡ slice_index_or held p old → new.keys ≡ old.keys
      → TakesBytes check (identity_of old.keys) bytes old.replica new.replica e
      → Brings s w p bytes (slice_set held p new) seats e
  replica-brings p bytes old new e l here same t =
      let done = replica-takes p (λ i. checked check i t.read) old new e l here same t.takes in
      let is = sym (comes-checked p done.0 t.read l) in
      record {
        read = t.read;
        is_read = subst (λ (z : Sizes). IsReadAs z bytes t.read) (its-sizes p old l here) t.is_read;
        memory = done.0;
        parties = subst (λ (f : events.Effect). AreOf s (slice_set held p new) seats (with_effect w f)) is
            done.1;
        tells = subst (λ (f : events.Effect). Tells f (client_at p) e) is done.2;
      }

  pub replica-offers : (p : ℕ) (bytes : Bytes) (old new : steps.Held) (e : Effect) → p < replicas s.sizes
      → old ≡ slice_index_or held p old → new.keys ≡ old.keys
      → TakesBytes check_offer (identity_of old.keys) bytes old.replica new.replica e
      → Offers s w p bytes (slice_set held p new) seats e
  replica-offers p bytes old new e l here same t =
      let done = replica-takes p (λ i. checked check_offer i t.read) old new e l here same t.takes in
      let is = sym (offers-checked p done.0 t.read) in
      record {
        read = t.read;
        is_read = subst (λ (z : Sizes). IsReadAs z bytes t.read) (its-sizes p old l here) t.is_read;
        memory = done.0;
        parties = subst (λ (f : events.Effect). AreOf s (slice_set held p new) seats (with_effect w f)) is
            done.1;
        tells = subst (λ (f : events.Effect). Tells f (client_at p) e) is done.2;
      }

  pub replica-gathers : (p : ℕ) (frames : List (Bor Bytes)) (old new : steps.Held) (e : Effect)
      → p < replicas s.sizes → old ≡ slice_index_or held p old → new.keys ≡ old.keys
      → TakesCopies (identity_of old.keys) frames old.replica new.replica e
      → Gathers s w p frames (slice_set held p new) seats e
  replica-gathers p frames old new e l here same t =
      let done = replica-takes p (λ i. check_gathered i (flat_map listed t.reads)) old new e l here same t.takes
      in record {
        reads = t.reads;
        are_read = subst (λ (z : Sizes). AreReadAs z frames t.reads) (its-sizes p old l here) t.are_read;
        memory = done.0;
        parties = done.1;
        tells = done.2;
      }

  pub replica-moves : (p : ℕ) (input : Input) (old new : steps.Held) (e : Effect) → p < replicas s.sizes
      → old ≡ slice_index_or held p old → new.keys ≡ old.keys
      → Takes (identity_of old.keys) (passes input) old.replica new.replica e
      → Moves s w input p (slice_set held p new) seats e
  replica-moves p input old new e l here same t =
      let done = replica-takes p (λ i. passes input) old new e l here same t in
      record { memory = done.0; parties = done.1; tells = done.2 }

  -- ---- a client

  -- what a session heard, in the world
  heard : (c : ℕ) (new : sessions.Held) (e : Effect) (x : Session × Heard) → c < s.sizes.clients
      → HasKeysOf s (client_party c) new.keys → new.session ≡ x.0 → e.out.items ≡ []
      → option_to_list e.accepted ≡ map (λ r. (c, r)) (events.accepted_of x.1)
      → e.answer ≡ events.heard_answer x.1
      → AreOf s held (slice_set seats c new) (with_effect w (told w c x)) × Tells (told w c x) c e
  unfolding told
  heard c new e x l keys is out accepted answer = (
    session-moved c new (put c x.0 w.session) l keys (is ∙ put-here c x.0 w.session)
        (put-there c x.0 w.session),
    record { out = ap (map sent_of) out; accepted = accepted; answer = answer },
  )

  pub client-submits : (c : ℕ) (payload : Bytes) (old new : sessions.Held) (e : Effect)
      → c < s.sizes.clients → old ≡ slice_index_or seats c old
      → Submits old payload new e → Hands s w c payload held (slice_set seats c new) e
  unfolding submitted
  client-submits c payload old new e l here t =
      let k : HasKeysOf s (client_party c) old.keys =
      subst (λ (h : sessions.Held). HasKeysOf s (client_party c) h.keys) (sym here)
      (at.seated.session_keys c old l) in
      let mine : HasKeysOf s (client_party c) new.keys =
      subst (HasKeysOf s (client_party c)) (sym t.keys) k in
      let same : submission (client_of old.keys) t.memory payload old.session
      ≡ submission (worlds.client_of w c) t.memory payload (w.session c) =
      ap (λ (me : Client). submission me t.memory payload old.session) (client-is s w c old.keys at.setting k)
      ∙ ap (λ (x : Session). submission (worlds.client_of w c) t.memory payload x)
      (ap (λ (h : sessions.Held). h.session) here ∙ at.sessions_are c old l) in
      let x = submission (worlds.client_of w c) t.memory payload (w.session c) in
      record {
        memory = t.memory;
        parties = session-moved c new (put c x.0 w.session) l mine
            (t.state ∙ ap (λ y. y.0) same ∙ put-here c x.0 w.session) (put-there c x.0 w.session);
        tells = record {
          out = t.out ∙ ap (λ y. steps.shown (events.submitted_out y.1)) same;
          accepted = ap option_to_list t.accepted;
          answer = t.answer ∙ ap (λ y. events.submitted_answer y.1) same;
        };
      }

  -- it is a client of the world
  no-replica : (p : ℕ) → AreSizes s.sizes → 256 ≤ p → is_replica w p ≡ true → ⊥
  no-replica p are high t =
      let l =
      ltb-true p (replicas w.sizes) t in let e : replicas w.sizes ≡ replicas s.sizes =
      ap replicas at.setting.sizes_are in omega (arith, l, e, are.1, high)

  -- bytes come to it
  bytes-come : (p : ℕ) (m : MemorySupply) (new : sessions.Held) (e : Effect) (read : Option Frame)
      → AreSizes s.sizes → 256 ≤ p → client_at p < s.sizes.clients
      → HasKeysOf s (client_party (client_at p)) new.keys
      → new.session ≡ (hears (worlds.client_of w (client_at p)) m read (w.session (client_at p))).0
      → e.out.items ≡ []
      → option_to_list e.accepted
      ≡ map (λ r. (client_at p, r))
      (events.accepted_of (hears (worlds.client_of w (client_at p)) m read (w.session (client_at p))).1)
      → e.answer
      ≡ events.heard_answer (hears (worlds.client_of w (client_at p)) m read (w.session (client_at p))).1
      → AreOf s held (slice_set seats (client_at p) new) (with_effect w (comes p m read w))
      × Tells (comes p m read w) (client_at p) e
  unfolding comes nothing
  bytes-come p m new e None are high l keys is out accepted answer = (
    session-moved (client_at p) new w.session l keys is (λ j k. refl),
    record { out = ap (map sent_of) out; accepted = accepted; answer = answer },
  )
  bytes-come p m new e (Some f) are high l keys is out accepted answer =
      cond_both (is_replica w p) (on_checked p m (check (self_of w p) f) w) (events.hears (client_at p) m f w)
      (λ (x : events.Effect). AreOf s held (slice_set seats (client_at p) new) (with_effect w x)
      × Tells x (client_at p) e)
      (λ t. absurd (no-replica p are high t))
      (λ t. heard (client_at p) new e
      (on_reply (worlds.client_of w (client_at p)) m f (w.session (client_at p))) l keys is out accepted
      answer)

  pub client-hears : (p : ℕ) (bytes : Bytes) (old new : sessions.Held) (e : Effect) → AreSizes s.sizes
      → 256 ≤ p → client_at p < s.sizes.clients → old ≡ slice_index_or seats (client_at p) old
      → Hears old bytes new e → Brings s w p bytes held (slice_set seats (client_at p) new) e
  client-hears p bytes old new e are high l here t =
      let c : ℕ = client_at p in
      let k : HasKeysOf s (client_party c) old.keys =
      subst (λ (h : sessions.Held). HasKeysOf s (client_party c) h.keys) (sym here)
      (at.seated.session_keys c old l) in
      let mine : HasKeysOf s (client_party c) new.keys =
      subst (HasKeysOf s (client_party c)) (sym t.keys) k in
      let same : hears (client_of old.keys) t.memory t.read old.session
      ≡ hears (worlds.client_of w c) t.memory t.read (w.session c) =
      ap (λ (me : Client). hears me t.memory t.read old.session) (client-is s w c old.keys at.setting k)
      ∙ ap (λ (x : Session). hears (worlds.client_of w c) t.memory t.read x)
      (ap (λ (h : sessions.Held). h.session) here ∙ at.sessions_are c old l) in
      let number : client_at old.keys.party ≡ c = ap client_at k.party_is ∙ omega arith in
      let done = bytes-come p t.memory new e t.read are high l mine
      (t.state ∙ ap (λ (y : Session × Heard). y.0) same) t.out
      (t.accepted ∙ (λ i. map (λ r. (number i, r)) (events.accepted_of (same i).1)))
      (t.answer ∙ ap (λ (y : Session × Heard). events.heard_answer y.1) same) in
      record {
        read = t.read;
        is_read = subst (λ (z : Sizes). IsReadAs z bytes t.read) k.sizes_are t.is_read;
        memory = t.memory;
        parties = done.0;
        tells = done.1;
      }

-- ---- where there is an effect

-- the keys of a replica have the sizes of its world
pub seated-sizes : (s : Setting) (held : List steps.Held) (seats : List sessions.Held) (i p : ℕ)
    (old : steps.Held) → AreSeated s held seats → i ≡ p → p < replicas s.sizes → old ≡ slice_index_or held i old
    → old.keys.sizes ≡ s.sizes
seated-sizes s held seats i p old at is l here =
    (subst (λ (h : steps.Held). HasKeysOf s p h.keys) (sym (subst (λ (n : ℕ). old ≡ slice_index_or held n old)
    is here)) (at.replica_keys p old l)).sizes_are

-- something came to a replica
module _ (s : Setting) (held : List steps.Held) (seats : List sessions.Held) (i p : ℕ) (old new : steps.Held)
    (is : i ≡ p) (l : p < replicas s.sizes) (here : old ≡ slice_index_or held i old)
    (same : new.keys ≡ old.keys) where
  there : old ≡ slice_index_or held p old
  there = subst (λ (n : ℕ). old ≡ slice_index_or held n old) is here

  -- bytes
  pub brings-if : (bytes : Bytes) (r : Result Effect Fault)
      → IfOk r (λ e. TakesBytes check (identity_of old.keys) bytes old.replica new.replica e)
      → IfOk r (λ e. (w : World) → AreOf s held seats w → Brings s w p bytes (slice_set held i new) seats e)
  brings-if bytes (Ok e) t = λ w at.
      subst (λ (n : ℕ). Brings s w p bytes (slice_set held n new) seats e) (sym is)
      (replica-brings s held seats w at p bytes old new e l there same t)
  brings-if bytes (Err n) t = tt

  -- bytes that are offered
  pub offers-if : (bytes : Bytes) (r : Result Effect Fault)
      → IfOk r (λ e. TakesBytes check_offer (identity_of old.keys) bytes old.replica new.replica e)
      → IfOk r (λ e. (w : World) → AreOf s held seats w → Offers s w p bytes (slice_set held i new) seats e)
  offers-if bytes (Ok e) t = λ w at.
      subst (λ (n : ℕ). Offers s w p bytes (slice_set held n new) seats e) (sym is)
      (replica-offers s held seats w at p bytes old new e l there same t)
  offers-if bytes (Err n) t = tt

  -- frames together
  pub gathers-if : (sent : List SentFrame) (sources : List Source) (r : Result Effect Fault)
      → IfOk r (λ e. (frames : List (Bor Bytes)) × AreBytesOf sent sources frames
      × TakesCopies (identity_of old.keys) frames old.replica new.replica e)
      → IfOk r (λ e. (frames : List (Bor Bytes)) × AreBytesOf sent sources frames
      × ((w : World) → AreOf s held seats w → Gathers s w p frames (slice_set held i new) seats e))
  gathers-if sent sources (Ok e) (frames, are, t) = (
    frames,
    are,
    λ w at.
        subst (λ (n : ℕ). Gathers s w p frames (slice_set held n new) seats e) (sym is)
        (replica-gathers s held seats w at p frames old new e l there same t),
  )
  gathers-if sent sources (Err n) t = tt

  -- an input that no frame brings
  pub moves-if : (input : Input) (r : Result Effect Fault)
      → IfOk r (λ e. Takes (identity_of old.keys) (passes input) old.replica new.replica e)
      → IfOk r (λ e. (w : World) → AreOf s held seats w → Moves s w input p (slice_set held i new) seats e)
  moves-if input (Ok e) t = λ w at.
      subst (λ (n : ℕ). Moves s w input p (slice_set held n new) seats e) (sym is)
      (replica-moves s held seats w at p input old new e l there same t)
  moves-if input (Err n) t = tt

-- a client submitted
pub submits-if : (s : Setting) (held : List steps.Held) (seats : List sessions.Held) (i c : ℕ)
    (payload : Bytes) (old new : sessions.Held) (r : Result Effect Fault) → i ≡ c → c < s.sizes.clients
    → old ≡ slice_index_or seats i old
    → IfOk r (λ e. Submits old payload new e)
    → IfOk r
    (λ e. (w : World) → AreOf s held seats w → Hands s w c payload held (slice_set seats i new) e)
submits-if s held seats i c payload old new (Ok e) is l here t = λ w at.
    subst (λ (n : ℕ). Hands s w c payload held (slice_set seats n new) e) (sym is)
    (client-submits s held seats w at c payload old new e l
    (subst (λ (n : ℕ). old ≡ slice_index_or seats n old) is here) t)
submits-if s held seats i c payload old new (Err n) is l here t = tt

-- bytes came to a client
pub hears-at : (s : Setting) (held : List steps.Held) (seats : List sessions.Held) (i p : ℕ) (bytes : Bytes)
    (old new : sessions.Held) (e : Effect) → i ≡ client_at p → AreSizes s.sizes → 256 ≤ p
    → client_at p < s.sizes.clients → old ≡ slice_index_or seats i old
    → Hears old bytes new e → (w : World) → AreOf s held seats w
    → Brings s w p bytes held (slice_set seats i new) e
hears-at s held seats i p bytes old new e is are high l here t w at =
    subst (λ (n : ℕ). Brings s w p bytes held (slice_set seats n new) e) (sym is)
    (client-hears s held seats w at p bytes old new e are high l
    (subst (λ (n : ℕ). old ≡ slice_index_or seats n old) is here) t)
