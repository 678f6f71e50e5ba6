-- The law, by induction over the events of an interleaving.
use Rattle.ids.specs.declared.fault.Fault.{Fault}
use Rattle.ids.specs.declared.fault.Fault.TheVariants as fault
use Rattle.std.proofs.Common.{ℕ, ◌≡◌, ◌&&◌, not, Bool, true, false, List, [], ◌∷◌, ◌++◌, cond, refl, sym, ap, subst, ◌∙◌}
use Rattle.std.proofs.Common.{◌==◌, filter, arith, Option, Some, None, Result, Ok, Err}
use Rattle.std.specs.List.{AllByRecursion, list_all}
use Rattle.std.proofs.lemmas.Bool.{cond-false, and_from, eqb-true}
use Rattle.ids.specs.Sizes.{Sizes, AreSizes, client_party}
use Rattle.definitions.specs.Keyrings.{Keyring, is_replica_of}
use Rattle.definitions.specs.Lists.{Among, IsBeginning}
use Rattle.definitions.specs.Histories.{History, Answer, answers}
use Rattle.definitions.specs.Replicas.{Replica, held_history}
use Rattle.definitions.specs.Sessions.{Session, Receipt}
use Rattle.definitions.specs.Worlds.{World, Sent, AcceptedBy, Source, Source.of_record, Source.of_bytes, Event}
use Rattle.definitions.specs.Worlds.{Event.submit, Event.relay, Event.inject, Event.timeout, Event.beat, Event.prune}
use Rattle.definitions.specs.Worlds.{Event.offer, Event.gather, Event.lead, Event.ask, Happening, new_world, is_correct}
use Rattle.definitions.specs.Worlds.{self_of, client_of}
use Rattle.definitions.specs.Events.{happens}
use Rattle.definitions.specs.Runs.{refusal, run, after, names_party, names_frame, names_request, is_there}
use Rattle.definitions.specs.Linearity.{IsLinearBy, answers_in}
use Rattle.definitions.proofs.Certificates.{all-implied}
use Rattle.linear_law.proofs.Linear.{run-step}
use Rattle.linear_law.proofs.WholeRuns.{every-run-linear}
use Rattle.definitions.proofs.Lists.{Among-map, Among-filter}
use Rattle.local_runs.specs.Processes.{Deeds, alone, and_then, replica_step, client_step}
use Rattle.local_runs.specs.Law.{run_of, IsInterleaving, replica_in, client_in, IsOfProcesses}
use Rattle.local_runs.specs.Law.{IsCorrectClient, IsTheirHistory, ProcessesAreARun, ProcessesAreLinear}
use Rattle.local_runs.proofs.Told.{IsBytes, BringsBytes, IsTold, interleaving-told}
use Rattle.local_runs.proofs.Moves.{AreApart}
use Rattle.local_runs.proofs.Joined.{joined, none-later, none-earlier}
use Rattle.local_runs.proofs.Views.{replica-next, client-next, IsCorrectParty, senders-next}
use Rattle.local_runs.proofs.Views.{acceptors-next}

-- ---- nothing is refused

source-there : (w : World) (s : Source) → IsBytes s → is_there w s ≡ true
source-there w (of_record k) b = absurd b
source-there w (of_bytes bytes read) b = refl

sources-there : (w : World) (ss : List Source) → AllByRecursion IsBytes ss → list_all (is_there w) ss ≡ true
sources-there w [] a = refl
sources-there w (s ∷ ss) a = and_from _ _ (source-there w s a.0) (sources-there w ss a.1)

frames-there : (w : World) (e : Event) → BringsBytes e → names_frame w e ≡ true
frames-there w (submit c payload) b = refl
frames-there w (relay k to) b = absurd b
frames-there w (inject to bytes read) b = refl
frames-there w (timeout r) b = refl
frames-there w (beat r) b = refl
frames-there w (prune r height) b = refl
frames-there w (offer to source) b = source-there w source b
frames-there w (gather to sources) b = sources-there w sources b
frames-there w (lead r d) b = refl
frames-there w (ask r to d) b = refl

pub not-refused : (w : World) (h : Happening) → IsTold w h → refusal w h.0 ≡ None
unfolding refusal
not-refused w h t =
    off (names_party w h.0) (Some fault.NoSuchParty) _ t.party
    ∙ (off (names_frame w h.0) (Some fault.NoSuchFrame) _ (frames-there w h.0 t.bytes)
    ∙ off (names_request h.0) (Some fault.NotARequest) None t.request)
  where
    off : (t : Bool) (x y : Option Fault) → t ≡ true → cond (not t) x y ≡ y
    off t x y e = cond-false (not t) x y (ap not e)

-- ---- along a run

-- a later world has the same parties
later-told : (w : World) (x : Happening) (hs : List Happening) → AllByRecursion (IsTold w) hs
    → AllByRecursion (IsTold (happens w x)) hs
unfolding happens
later-told w x hs a =
    all-implied (IsTold w) (IsTold (happens w x))
    (λ h t. record { bytes = t.bytes; party = t.party; request = t.request }) hs a

pub runs-through : (hs : List Happening) (w : World) → AllByRecursion (IsTold w) hs → run w hs ≡ Ok (after w hs)
unfolding run after
runs-through [] w a = refl
runs-through (h ∷ hs) w a =
    ap (λ (o : Option Fault). elim o as (λ x. Result World Fault) [ Some n ↦ Err n | None ↦ run (happens w h) hs ])
    (not-refused w h a.0)
    ∙ runs-through hs (happens w h) (later-told w h hs a.1)

replica-run : (hs : List Happening) (w : World) (p : ℕ) → AreApart w → is_correct w p ≡ true
    → AllByRecursion (IsTold w) hs
    → replica_in (after w hs) p
    ≡ and_then (replica_in w p) (alone (replica_step (self_of w p)) (run_of p hs) (w.replica p))
unfolding after happens alone
replica-run [] w p a c t = sym (none-later (replica_in w p))
replica-run (h ∷ hs) w p a c t =
    replica-run hs (happens w h) p a c (later-told w h hs t.1)
    ∙ joined p (replica_step (self_of w p)) h hs (replica_in w p) (replica_in (happens w h) p)
    (replica-next w h p a t.0 c)

client-run : (hs : List Happening) (w : World) (c : ℕ) → AreApart w → w.is_faulty (client_party c) ≡ false
    → AllByRecursion (IsTold w) hs
    → client_in (after w hs) c
    ≡ and_then (client_in w c) (alone (client_step (client_of w c)) (run_of (client_party c) hs) (w.session c))
unfolding after happens alone
client-run [] w c a g t = sym (none-later (client_in w c))
client-run (h ∷ hs) w c a g t =
    client-run hs (happens w h) c a g (later-told w h hs t.1)
    ∙ joined (client_party c) (client_step (client_of w c)) h hs (client_in w c) (client_in (happens w h) c)
    (client-next w h c a t.0 g)

senders-run : (hs : List Happening) (w : World) → AreApart w → AllByRecursion (IsTold w) hs
    → ((s : Sent) → Among s w.sent → IsCorrectParty w s.sender) → (s : Sent) → Among s (after w hs).sent
    → IsCorrectParty w s.sender
unfolding after happens
senders-run [] w a t before s m = before s m
senders-run (h ∷ hs) w a t before s m =
    senders-run hs (happens w h) a (later-told w h hs t.1) (senders-next w h a t.0 before) s m

acceptors-run : (hs : List Happening) (w : World) → AreApart w → AllByRecursion (IsTold w) hs
    → ((r : AcceptedBy) → Among r w.receipts → IsCorrectClient w r.client) → (r : AcceptedBy)
    → Among r (after w hs).receipts → IsCorrectClient w r.client
unfolding after happens
acceptors-run [] w a t before r m = before r m
acceptors-run (h ∷ hs) w a t before r m =
    acceptors-run hs (happens w h) a (later-told w h hs t.1) (acceptors-next w h a t.0 before) r m

-- ---- from the start

module _ (sizes : Sizes) (is_faulty : ℕ → Bool) (ring : ℕ → Keyring) where
  abbrev start : World
  start = new_world sizes is_faulty ring

  pub apart : AreSizes sizes → AreApart start
  unfolding new_world
  apart are = let l = are.1 in omega (arith, l)

  pub of-processes : (runs : ℕ → List Happening) (order : List Happening) → AreApart start
      → IsInterleaving runs order → AllByRecursion (IsTold start) order
      → IsOfProcesses start runs (after start order)
  unfolding new_world
  of-processes runs order a inter told = record {
    replicas = λ p c.
        let local : List Happening → Deeds Replica =
        λ (hs : List Happening). alone (replica_step (self_of start p)) hs (start.replica p) in
        replica-run order start p a c told
        ∙ (none-earlier (start.replica p) (local (run_of p order)) ∙ ap local (inter p));
    clients = λ c g.
        let local : List Happening → Deeds Session =
        λ (hs : List Happening). alone (client_step (client_of start c)) hs (start.session c) in
        client-run order start c a g.1 told
        ∙ (none-earlier (start.session c) (local (run_of (client_party c) order)) ∙ ap local (inter (client_party c)));
    senders = senders-run order start a told (λ s m. absurd m);
    acceptors = acceptors-run order start a told (λ r m. absurd m);
  }

-- the events so far
pub first-ones : (P : Happening → Type 0) (before later : List Happening) → AllByRecursion P (before ++ later)
    → AllByRecursion P before
first-ones P [] later a = tt
first-ones P (h ∷ hs) later a = (a.0, first-ones P hs later a.1)

pub processes-run : ProcessesAreARun
processes-run sizes is_faulty ring runs order are can inter =
    let told = interleaving-told sizes is_faulty ring runs order inter can in
    let disjoint = apart sizes is_faulty ring are in (
      after (new_world sizes is_faulty ring) order,
      runs-through order (new_world sizes is_faulty ring) told,
      of-processes sizes is_faulty ring runs order disjoint inter told,
      λ before later e.
          of-processes sizes is_faulty ring (λ p. run_of p before) before disjoint (λ p. refl)
          (first-ones (IsTold (new_world sizes is_faulty ring)) before later
          (subst (λ (hs : List Happening). AllByRecursion (IsTold (new_world sizes is_faulty ring)) hs) (sym e) told)),
    )

-- ---- one history

-- a run keeps who there is
pub same-parties : (hs : List Happening) (w last : World) → run w hs ≡ Ok last
    → (last.sizes ≡ w.sizes) × (last.is_faulty ≡ w.is_faulty)
unfolding run happens
same-parties [] w last e =
    let k : w ≡ last = cc in (ap (λ (x : World). x.sizes) (sym k), ap (λ (x : World). x.is_faulty) (sym k))
same-parties (h ∷ hs) w last e =
    same-parties hs (happens w h) last (run-step (refusal w h.0) (run (happens w h) hs) last e).1

their-history : (first last : World) (runs : ℕ → List Happening) (h : History) → last.sizes ≡ first.sizes
    → last.is_faulty ≡ first.is_faulty → IsOfProcesses first runs last → IsLinearBy last h
    → IsTheirHistory first runs h
their-history first last runs h z f o l = record {
  executed = λ p k.
      let there : is_correct last p ≡ true = (λ i. is_replica_of (z i) p && not (f i p)) ∙ k in
      subst (λ (d : Deeds Replica). IsBeginning (held_history d.state) h) (o.replicas p k) (l.histories p there);
  accepted = λ c r k m.
      let x = Among-map (λ y. y.receipt) (filter (λ y. y.client == c) last.receipts) r
      (subst (λ (d : Deeds Session). Among r d.accepted) (sym (o.clients c k)) m) in
      let y = Among-filter (λ y. y.client == c) last.receipts x.0 x.1 in
      subst (λ (s : Sizes). Among (answer_of c r) (answers s.most_keys h)) z
      (subst (λ (q : Receipt). Among (answer_of c q) (answers_in last h)) (sym x.2)
      (subst (λ (n : ℕ). Among (answer_of n x.0.receipt) (answers_in last h)) (eqb-true _ _ y.1)
      (l.receipts x.0 y.0)));
}
  where
    answer_of : ℕ → Receipt → Answer
    answer_of c r = record { client = c; seq = r.seq; place = r.place; text = r.text }

pub processes-linear : ProcessesAreLinear
processes-linear sizes is_faulty ring runs order are can inter met =
    let start : World = new_world sizes is_faulty ring in
    let r = processes-run sizes is_faulty ring runs order are can inter in
    let l = every-run-linear sizes is_faulty ring order r.0 met r.1 in
    let same = same-parties order start r.0 r.1 in
    (r.0, r.1, r.2, (l.0, l.1, their-history start r.0 runs l.0 same.0 same.1 r.2 l.1))
