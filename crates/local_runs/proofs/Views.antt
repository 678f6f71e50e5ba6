-- One event moves what a world has of a process just as the process moves alone.
use Rattle.std.proofs.Common.{ℕ, ◌≡◌, ◌==◌, ◌<◌, ◌≤◌, true, false, List, [], ◌++◌, map, refl, sym, ap, subst, ◌∙◌}
use Rattle.std.proofs.Common.{arith, inl, inr, None, true≢false}
use Rattle.std.proofs.lemmas.Bool.{cond-true, cond-false, and_parts, and_from, cases_Bool, eq-eqb, ne_eqb, eqb-true}
use Rattle.std.proofs.lemmas.Bool.{eqb-false, or_left, or_right, lt-ltb, le-leb}
use Rattle.ids.specs.Sizes.{client_party}
use Rattle.definitions.specs.Lists.{Among}
use Rattle.definitions.specs.Replicas.{Replica}
use Rattle.definitions.specs.Sessions.{Session, Receipt}
use Rattle.definitions.specs.Worlds.{World, Sent, AcceptedBy, Happening, is_correct, is_replica, is_party, self_of}
use Rattle.definitions.specs.Worlds.{client_of}
use Rattle.definitions.specs.Events.{Effect, nothing, party_of, client_number, effect, happens}
use Rattle.definitions.proofs.Lists.{Among-either, Among-map}
use Rattle.linear_law.proofs.Runs.{member-faulty}
use Rattle.local_runs.specs.Processes.{Deeds, replica_step, client_step}
use Rattle.local_runs.specs.Law.{sent_by, accepted_by, replica_in, client_in, IsCorrectClient}
use Rattle.local_runs.proofs.Told.{IsTold}
use Rattle.local_runs.proofs.Moves.{AtReplica, AtClient, Moves, Moves.at_none, Moves.at_replica, Moves.at_client, AreApart}
use Rattle.local_runs.proofs.Moves.{no-replica, moves}
use Rattle.local_runs.proofs.Joined.{next, sent_in, accepted_in, sends-own, sends-other, accepts-own, accepts-other}

-- ---- a replica

-- what the world has of it after an effect
abbrev replica_then : World → Happening → Effect → ℕ → Deeds Replica
replica_then w h f p = record {
  state = f.replica p;
  sent = sent_by p (w.sent ++ map (sent_in w.now (party_of h.0)) f.out);
  accepted = [];
}

-- another party's event
replica-stays : (w : World) (h : Happening) (f : Effect) (p : ℕ) → (p ≡ party_of h.0 → ⊥)
    → f.replica p ≡ w.replica p
    → replica_then w h f p ≡ next p (replica_step (self_of w p)) h (replica_in w p)
replica-stays w h f p apart e =
    let n : (party_of h.0 == p) ≡ false = ne_eqb (party_of h.0) p (λ k. apart (sym k)) in
    (λ k. record { state = e k; sent = sends-other w.now (party_of h.0) p n w.sent f.out k; accepted = [] })
    ∙ sym (cond-false _ _ _ n)

-- its own
replica-goes : (w : World) (h : Happening) (f : Effect)
    → AtReplica w (party_of h.0) (replica_step (self_of w (party_of h.0)) h (w.replica (party_of h.0))) f
    → (p : ℕ) → party_of h.0 ≡ p
    → replica_then w h f p ≡ next p (replica_step (self_of w p)) h (replica_in w p)
replica-goes w h f a p i =
    subst (λ (q : ℕ). replica_then w h f q ≡ next q (replica_step (self_of w q)) h (replica_in w q)) i
    ((λ k. record {
      state = a.own k;
      sent = (sends-own w.now q q here w.sent f.out ∙ ap (λ l. sent_by q w.sent ++ l) a.sent) k;
      accepted = ap (λ (l : List Receipt). l ++ []) (sym a.none) k;
    }) ∙ sym (cond-true _ _ _ here))
  where
    q : ℕ
    q = party_of h.0

    here : (party_of h.0 == party_of h.0) ≡ true
    here = eq-eqb _ _ refl

replica-by : (w : World) (h : Happening) (p : ℕ) → AreApart w → is_correct w p ≡ true → (f : Effect) → Moves w h f
    → replica_then w h f p ≡ next p (replica_step (self_of w p)) h (replica_in w p)
unfolding nothing
replica-by w h p a c _ (at_none bad) =
    replica-stays w h (nothing w None) p
    (λ k. true≢false (sym bad ∙ (ap w.is_faulty (sym k) ∙ member-faulty w p c))) refl
replica-by w h p a c _ (at_replica f ok r d) =
    elim (cases_Bool (party_of h.0 == p)) [
      | inl t ↦ replica-goes w h f d p (eqb-true _ _ t)
      | inr t ↦
          (let n : p ≡ party_of h.0 → ⊥ = λ k. eqb-false _ _ t (sym k) in
          replica-stays w h f p n (d.others p n))
    ]
replica-by w h p a c _ (at_client n f ok i l d) =
    replica-stays w h f p
    (λ k. no-replica w n a (subst (λ (q : ℕ). is_replica w q ≡ true) (k ∙ i) (and_parts _ _ c).0))
    (ap (λ (row : ℕ → Replica). row p) d.replica)

pub replica-next : (w : World) (h : Happening) (p : ℕ) → AreApart w → IsTold w h → is_correct w p ≡ true
    → replica_in (happens w h) p ≡ next p (replica_step (self_of w p)) h (replica_in w p)
unfolding happens
replica-next w h p a t c = replica-by w h p a c (effect w h) (moves w h a t)

-- ---- a client

abbrev client_then : World → Happening → Effect → ℕ → Deeds Session
client_then w h f c = record {
  state = f.session c;
  sent = sent_by (client_party c) (w.sent ++ map (sent_in w.now (party_of h.0)) f.out);
  accepted = accepted_by c (map (accepted_in w.now (client_number h.0)) f.accepted ++ w.receipts);
}

client-stays : (w : World) (h : Happening) (f : Effect) (c : ℕ) → (client_party c ≡ party_of h.0 → ⊥)
    → f.session c ≡ w.session c
    → accepted_by c (map (accepted_in w.now (client_number h.0)) f.accepted ++ w.receipts) ≡ accepted_by c w.receipts
    → client_then w h f c ≡ next (client_party c) (client_step (client_of w c)) h (client_in w c)
client-stays w h f c apart e r =
    let n : (party_of h.0 == client_party c) ≡ false = ne_eqb _ _ (λ k. apart (sym k)) in
    (λ k. record {
      state = e k;
      sent = sends-other w.now (party_of h.0) (client_party c) n w.sent f.out k;
      accepted = r k;
    })
    ∙ sym (cond-false _ _ _ n)

none-accepted : (w : World) (h : Happening) (rs : List Receipt) (c : ℕ) → rs ≡ []
    → accepted_by c (map (accepted_in w.now (client_number h.0)) rs ++ w.receipts) ≡ accepted_by c w.receipts
none-accepted w h rs c e =
    ap (λ (l : List Receipt). accepted_by c (map (accepted_in w.now (client_number h.0)) l ++ w.receipts)) e

number-of : (h : Happening) (c : ℕ) → party_of h.0 ≡ client_party c → client_number h.0 ≡ c
number-of h c i = omega (arith, i)

client-goes : (w : World) (h : Happening) (f : Effect) (c : ℕ) → party_of h.0 ≡ client_party c
    → AtClient w c (client_step (client_of w c) h (w.session c)) f
    → client_then w h f c ≡ next (client_party c) (client_step (client_of w c)) h (client_in w c)
client-goes w h f c i a =
    let here : (party_of h.0 == client_party c) ≡ true = eq-eqb _ _ i in
    let mine : (client_number h.0 == c) ≡ true = eq-eqb _ _ (number-of h c i) in
    (λ k. record {
      state = a.own k;
      sent = (sends-own w.now (party_of h.0) (client_party c) here w.sent f.out
          ∙ ap (λ l. sent_by (client_party c) w.sent ++ l) a.sent) k;
      accepted = (accepts-own w.now (client_number h.0) c mine f.accepted w.receipts
          ∙ ap (λ l. l ++ accepted_by c w.receipts) a.accepted) k;
    })
    ∙ sym (cond-true _ _ _ here)

client-by : (w : World) (h : Happening) (c : ℕ) → AreApart w → w.is_faulty (client_party c) ≡ false → (f : Effect)
    → Moves w h f
    → client_then w h f c ≡ next (client_party c) (client_step (client_of w c)) h (client_in w c)
unfolding nothing
client-by w h c a good _ (at_none bad) =
    client-stays w h (nothing w None) c (λ k. true≢false (sym bad ∙ (ap w.is_faulty (sym k) ∙ good))) refl refl
client-by w h c a good _ (at_replica f ok r d) =
    client-stays w h f c
    (λ k. no-replica w c a (subst (λ (q : ℕ). is_replica w q ≡ true) (sym k) r))
    (ap (λ (row : ℕ → Session). row c) d.session) (none-accepted w h f.accepted c d.accepted)
client-by w h c a good _ (at_client n f ok i l d) =
    elim (cases_Bool (n == c)) [
      | inl t ↦
          (let e : n ≡ c = eqb-true _ _ t in
          client-goes w h f c (i ∙ ap client_party e)
          (subst (λ (x : ℕ). AtClient w x (client_step (client_of w x) h (w.session x)) f) e d))
      | inr t ↦
          (let other : c ≡ n → ⊥ = λ k. eqb-false _ _ t (sym k) in
          client-stays w h f c (λ k. other (let j : client_party c ≡ client_party n = k ∙ i in omega (arith, j)))
          (d.others c other)
          (accepts-other w.now (client_number h.0) c
          (ne_eqb _ _ (λ k. other (let j : client_number h.0 ≡ n = number-of h n i in omega (arith, j, k))))
          f.accepted w.receipts))
    ]

pub client-next : (w : World) (h : Happening) (c : ℕ) → AreApart w → IsTold w h
    → w.is_faulty (client_party c) ≡ false
    → client_in (happens w h) c ≡ next (client_party c) (client_step (client_of w c)) h (client_in w c)
unfolding happens
client-next w h c a t good = client-by w h c a good (effect w h) (moves w h a t)

-- ---- nobody else

-- a correct party
abbrev pub IsCorrectParty : World → ℕ → Type 0
IsCorrectParty w p = (is_party w p ≡ true) × (w.is_faulty p ≡ false)

client-there : (w : World) (c : ℕ) → c < w.sizes.clients → is_party w (client_party c) ≡ true
client-there w c l =
    let low : client_party 0 ≤ client_party c = omega arith in
    let high : client_party c < client_party w.sizes.clients = omega (arith, l) in
    or_right _ _ (and_from _ _ (le-leb _ _ low) (lt-ltb _ _ high))

sender-by : (w : World) (h : Happening) (f : Effect) → Moves w h f → (s : Sent)
    → Among s (map (sent_in w.now (party_of h.0)) f.out) → IsCorrectParty w s.sender
unfolding nothing
sender-by w h _ (at_none bad) s m = absurd m
sender-by w h _ (at_replica f ok r d) s m =
    let o = Among-map (sent_in w.now (party_of h.0)) f.out s m in
    subst (λ (x : Sent). IsCorrectParty w x.sender) (sym o.2) (or_left _ _ r, ok)
sender-by w h _ (at_client c f ok i l d) s m =
    let o = Among-map (sent_in w.now (party_of h.0)) f.out s m in
    subst (λ (x : Sent). IsCorrectParty w x.sender) (sym o.2)
    (subst (λ (p : ℕ). is_party w p ≡ true) (sym i) (client-there w c l), ok)

pub senders-next : (w : World) (h : Happening) → AreApart w → IsTold w h
    → ((s : Sent) → Among s w.sent → IsCorrectParty w s.sender) → (s : Sent) → Among s (happens w h).sent
    → IsCorrectParty w s.sender
unfolding happens
senders-next w h a t before s m = elim (Among-either s w.sent _ m)
    [ inl k ↦ before s k | inr k ↦ sender-by w h (effect w h) (moves w h a t) s k ]

acceptor-by : (w : World) (h : Happening) (f : Effect) → Moves w h f → (r : AcceptedBy)
    → Among r (map (accepted_in w.now (client_number h.0)) f.accepted) → IsCorrectClient w r.client
unfolding nothing
acceptor-by w h _ (at_none bad) r m = absurd m
acceptor-by w h _ (at_replica f ok k d) r m =
    absurd (subst (λ (l : List Receipt). Among r (map (accepted_in w.now (client_number h.0)) l)) d.accepted m)
acceptor-by w h _ (at_client c f ok i l d) r m =
    let o = Among-map (accepted_in w.now (client_number h.0)) f.accepted r m in
    subst (λ (x : AcceptedBy). IsCorrectClient w x.client) (sym o.2)
    (subst (IsCorrectClient w) (sym (number-of h c i)) (l, subst (λ (p : ℕ). w.is_faulty p ≡ false) i ok))

pub acceptors-next : (w : World) (h : Happening) → AreApart w → IsTold w h
    → ((r : AcceptedBy) → Among r w.receipts → IsCorrectClient w r.client) → (r : AcceptedBy)
    → Among r (happens w h).receipts → IsCorrectClient w r.client
unfolding happens
acceptors-next w h a t before r m = elim (Among-either r _ w.receipts m)
    [ inl k ↦ acceptor-by w h (effect w h) (moves w h a t) r k | inr k ↦ before r k ]
