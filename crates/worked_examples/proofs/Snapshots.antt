-- Worlds in which only replicas 0 to 2 and client 0 did something are told by what these hold. So a run is
-- computed part by part, from one such world to the next.
use Rattle.std.proofs.Common.{ℕ, ◌≡◌, ◌==◌, ◌&&◌, ◌||◌, ◌⊎◌, Bool, true, false, List, [], ◌∷◌, ◌++◌}
use Rattle.std.proofs.Common.{map, refl, sym, ap, ap₂, subst, ◌∙◌, inl, inr, true≢false, Option, Some, None, append_assoc}
use Rattle.std.proofs.lemmas.Bool.{and_parts, or_cases, eqb-true, cond_both, cond-false}
use Rattle.std.proofs.Math.Bool.{and_assoc}
use mathlib.Core.Path.{fun_ext}
use Rattle.ids.specs.declared.fault.Fault.{Fault}
use Rattle.definitions.specs.Frames.{Core, Frame}
use Rattle.definitions.specs.Keyrings.{client_at}
use Rattle.definitions.specs.Replicas.{MemorySupply, MemorySupply.ample, Replica, Reaction}
use Rattle.definitions.specs.Sessions.{Session, Heard}
use Rattle.definitions.specs.Admission.{Checked, Checked.passes, Checked.rejected, check}
use Rattle.definitions.specs.Worlds.{World, Sent, AcceptedBy, Event, Event.submit, Event.relay, Event.inject}
use Rattle.definitions.specs.Worlds.{Event.timeout, Event.beat, Event.prune, Event.offer, Event.gather}
use Rattle.definitions.specs.Worlds.{Event.lead, Event.ask, Happening, put, is_replica}
use Rattle.definitions.specs.Worlds.{self_of, new_world}
use Rattle.definitions.specs.Events.{Effect, nothing, stepped, told, submitted, on_checked, hears, submits}
use Rattle.definitions.specs.Events.{comes, recorded, brought, party_of, acts, effect, happens}
use Rattle.definitions.specs.Runs.{refusal, after}
use Rattle.worked_examples.specs.Liar.{start, amply}
use Rattle.worked_examples.proofs.Forgery.{Seen, seen, seen_with, seen-last, is_taken}
use Rattle.worked_examples.proofs.Forgery.{none_forged_in, cores_in}

-- what these parties hold, and the records
pub record Snapshot : Type 0 where
  pub r0 : Replica
  pub r1 : Replica
  pub r2 : Replica
  pub client : Session
  pub sent : List Sent
  pub receipts : List AcceptedBy
  pub answers : List (Option Fault)
  pub now : ℕ

abbrev pub snapshot : World → Snapshot
snapshot w = record {
  r0 = w.replica 0;
  r1 = w.replica 1;
  r2 = w.replica 2;
  client = w.session 0;
  sent = w.sent;
  receipts = w.receipts;
  answers = w.answers;
  now = w.now;
}

-- the world of a snapshot, in which the others are as at the start
abbrev pub restored : Snapshot → World
restored s = record {
  sizes = start.sizes;
  is_faulty = start.is_faulty;
  ring = start.ring;
  replica = put 0 s.r0 (put 1 s.r1 (put 2 s.r2 start.replica));
  session = put 0 s.client start.session;
  sent = s.sent;
  receipts = s.receipts;
  answers = s.answers;
  now = s.now;
}

-- ---- what an event leaves alone

-- one of these parties
abbrev is_these : ℕ → Bool
is_these p = (p == 0) || ((p == 1) || ((p == 2) || (p == 256)))

-- an event of such runs that names one of them
abbrev is_near : Event → Bool
is_near (submit c payload) = c == 0
is_near (relay k to) = is_these to
is_near (inject to bytes read) = is_these to
is_near (timeout r) = false
is_near (beat r) = r == 0
is_near (prune r height) = r == 0
is_near (offer to source) = false
is_near (gather to sources) = false
is_near (lead r d) = false
is_near (ask r to d) = false

abbrev pub all_near : List Happening → Bool
all_near [] = true
all_near (h ∷ hs) = is_near h.0 && all_near hs

-- the others are as they were
record LeavesOthers (w : World) (e : Effect) : Type 0 where
  replicas : (j : ℕ) → (j == 0) ≡ false → (j == 1) ≡ false → (j == 2) ≡ false → e.replica j ≡ w.replica j
  sessions : (c : ℕ) → (c == 0) ≡ false → e.session c ≡ w.session c

put-other : {A : Type 0} (i j : ℕ) (x : A) (row : ℕ → A) → (j == i) ≡ false → put i x row j ≡ row j
put-other i j x row e = cond-false _ _ _ e

nothing-leaves : (w : World) (a : Option Fault) → LeavesOthers w (nothing w a)
unfolding nothing
nothing-leaves w a = record { replicas = λ j e0 e1 e2. refl; sessions = λ c e. refl }

-- replica 0, 1 or 2
IsLow : ℕ → Type 0
IsLow p = (p ≡ 0) ⊎ ((p ≡ 1) ⊎ (p ≡ 2))

put-low : (p j : ℕ) (x : Replica) (row : ℕ → Replica) → IsLow p → (j == 0) ≡ false → (j == 1) ≡ false
    → (j == 2) ≡ false → put p x row j ≡ row j
unfolding IsLow
put-low p j x row (inl e) e0 e1 e2 = put-other p j x row (subst (λ (i : ℕ). (j == i) ≡ false) (sym e) e0)
put-low p j x row (inr (inl e)) e0 e1 e2 = put-other p j x row (subst (λ (i : ℕ). (j == i) ≡ false) (sym e) e1)
put-low p j x row (inr (inr e)) e0 e1 e2 = put-other p j x row (subst (λ (i : ℕ). (j == i) ≡ false) (sym e) e2)

stepped-leaves : (w : World) (p : ℕ) (m : MemorySupply) (r : Replica × Reaction) → IsLow p
    → LeavesOthers w (stepped w p m r)
unfolding stepped
stepped-leaves w p m r low =
    record { replicas = λ j e0 e1 e2. put-low p j r.0 w.replica low e0 e1 e2; sessions = λ c e. refl }

told-leaves : (w : World) (c : ℕ) (r : Session × Heard) → c ≡ 0 → LeavesOthers w (told w c r)
unfolding told
told-leaves w c r z = record {
  replicas = λ j e0 e1 e2. refl;
  sessions = λ i e. put-other c i r.0 w.session (subst (λ (n : ℕ). (i == n) ≡ false) (sym z) e);
}

submits-leaves : (w : World) (c : ℕ) (m : MemorySupply) (payload : List ℕ) → c ≡ 0
    → LeavesOthers w (submits c m payload w)
unfolding submitted
submits-leaves w c m payload z = record {
  replicas = λ j e0 e1 e2. refl;
  sessions = λ i e. put-other c i _ w.session (subst (λ (n : ℕ). (i == n) ≡ false) (sym z) e);
}

checked-leaves : (w : World) (p : ℕ) (m : MemorySupply) (x : Checked) → IsLow p
    → LeavesOthers w (on_checked p m x w)
checked-leaves w p m (passes i) low = stepped-leaves w p m _ low
checked-leaves w p m (rejected n) low = nothing-leaves w (Some n)

comes-leaves : (w : World) (p : ℕ) (m : MemorySupply) (o : Option Frame) → (is_replica w p ≡ true → IsLow p)
    → client_at p ≡ 0 → LeavesOthers w (comes p m o w)
unfolding comes
comes-leaves w p m None low c = nothing-leaves w _
comes-leaves w p m (Some f) low c =
    cond_both (is_replica w p) (on_checked p m (check (self_of w p) f) w) (hears (client_at p) m f w)
    (LeavesOthers w) (λ e. checked-leaves w p m (check (self_of w p) f) (low e))
    (λ e. told-leaves w (client_at p) _ c)

these-leave : (s : Snapshot) (p : ℕ) (m : MemorySupply) (o : Option Frame) → is_these p ≡ true
    → LeavesOthers (restored s) (comes p m o (restored s))
unfolding IsLow new_world
these-leave s p m o t = elim (or_cases _ _ t) [
  | inl e ↦ at 0 (λ k. inl refl) refl (eqb-true p 0 e)
  | inr h ↦ (elim (or_cases _ _ h) [
    | inl e ↦ at 1 (λ k. inr (inl refl)) refl (eqb-true p 1 e)
    | inr i ↦ (elim (or_cases _ _ i) [
      | inl e ↦ at 2 (λ k. inr (inr refl)) refl (eqb-true p 2 e)
      | inr e ↦ at 256 (λ k. absurd (true≢false (sym k))) refl (eqb-true p 256 e)
    ])
  ])
]
  where
    at : (q : ℕ) → (is_replica (restored s) q ≡ true → IsLow q) → client_at q ≡ 0 → p ≡ q
        → LeavesOthers (restored s) (comes p m o (restored s))
    at q low c e =
        subst (λ (i : ℕ). LeavesOthers (restored s) (comes i m o (restored s))) (sym e)
        (comes-leaves (restored s) q m o low c)

acts-leave : (s : Snapshot) (e : Event) (m : MemorySupply) → is_near e ≡ true
    → LeavesOthers (restored s) (acts (restored s) e m)
unfolding acts IsLow
acts-leave s (submit c payload) m t = submits-leaves (restored s) c m payload (eqb-true c 0 t)
acts-leave s (relay k to) m t = these-leave s to m (recorded (restored s) k) t
acts-leave s (inject to bytes read) m t = these-leave s to m read t
acts-leave s (timeout r) m t = absurd (true≢false (sym t))
acts-leave s (beat r) m t = stepped-leaves (restored s) r m _ (inl (eqb-true r 0 t))
acts-leave s (prune r height) m t = stepped-leaves (restored s) r m _ (inl (eqb-true r 0 t))
acts-leave s (offer to source) m t = absurd (true≢false (sym t))
acts-leave s (gather to sources) m t = absurd (true≢false (sym t))
acts-leave s (lead r d) m t = absurd (true≢false (sym t))
acts-leave s (ask r to d) m t = absurd (true≢false (sym t))

effect-leaves : (s : Snapshot) (h : Happening) → is_near h.0 ≡ true
    → LeavesOthers (restored s) (effect (restored s) h)
unfolding effect
effect-leaves s h t =
    cond_both ((restored s).is_faulty (party_of h.0)) (nothing (restored s) None) (acts (restored s) h.0 h.1)
    (LeavesOthers (restored s)) (λ e. nothing-leaves (restored s) None) (λ e. acts-leave s h.0 h.1 t)

-- ---- a world after such events is that of its snapshot

replicas-restored : (f row : ℕ → Replica)
    → ((j : ℕ) → (j == 0) ≡ false → (j == 1) ≡ false → (j == 2) ≡ false → f j ≡ row j)
    → f ≡ put 0 (f 0) (put 1 (f 1) (put 2 (f 2) row))
replicas-restored f row others = fun_ext (λ j. at j)
  where
    at : (j : ℕ) → f j ≡ put 0 (f 0) (put 1 (f 1) (put 2 (f 2) row)) j
    at j =
        cond_both (j == 0) (f 0) (put 1 (f 1) (put 2 (f 2) row) j) (λ (x : Replica). f j ≡ x)
        (λ e. ap f (eqb-true j 0 e))
        (λ e0. cond_both (j == 1) (f 1) (put 2 (f 2) row j) (λ (x : Replica). f j ≡ x) (λ e. ap f (eqb-true j 1 e))
        (λ e1. cond_both (j == 2) (f 2) (row j) (λ (x : Replica). f j ≡ x) (λ e. ap f (eqb-true j 2 e))
        (λ e2. others j e0 e1 e2)))

sessions-restored : (f row : ℕ → Session) → ((c : ℕ) → (c == 0) ≡ false → f c ≡ row c) → f ≡ put 0 (f 0) row
sessions-restored f row others = fun_ext (λ c. at c)
  where
    at : (c : ℕ) → f c ≡ put 0 (f 0) row c
    at c =
        cond_both (c == 0) (f 0) (row c) (λ (x : Session). f c ≡ x) (λ e. ap f (eqb-true c 0 e))
        (λ e. others c e)

pub start-restored : start ≡ restored (snapshot start)
start-restored =
    ap₂ (λ (r : ℕ → Replica) (s : ℕ → Session). record start { replica = r; session = s })
    (replicas-restored start.replica start.replica (λ j e0 e1 e2. refl))
    (sessions-restored start.session start.session (λ c e. refl))

happens-restored : (s : Snapshot) (h : Happening) → is_near h.0 ≡ true
    → happens (restored s) h ≡ restored (snapshot (happens (restored s) h))
unfolding happens
happens-restored s h t =
    let l = effect-leaves s h t in
    ap₂ (λ (r : ℕ → Replica) (c : ℕ → Session). record (happens (restored s) h) { replica = r; session = c })
    (replicas-restored (effect (restored s) h).replica start.replica (λ j e0 e1 e2. l.replicas j e0 e1 e2
    ∙ (put-other 0 j s.r0 (put 1 s.r1 (put 2 s.r2 start.replica)) e0
    ∙ (put-other 1 j s.r1 (put 2 s.r2 start.replica) e1 ∙ put-other 2 j s.r2 start.replica e2))))
    (sessions-restored (effect (restored s) h).session start.session
    (λ c e. l.sessions c e ∙ put-other 0 c s.client start.session e))

after-restored : (hs : List Happening) (s : Snapshot) → all_near hs ≡ true
    → after (restored s) hs ≡ restored (snapshot (after (restored s) hs))
unfolding after
after-restored [] s t = refl
after-restored (h ∷ hs) s t =
    let a = and_parts _ _ t in
    subst (λ (w : World). after w hs ≡ restored (snapshot (after w hs))) (sym (happens-restored s h a.0))
    (after-restored hs (snapshot (happens (restored s) h)) a.1)

-- ---- part by part

-- what a part of a schedule shows, and the snapshot after it
pub record Part : Type 0 where
  pub taken : Bool
  pub honest : Bool
  pub brought : List Core
  pub left : Snapshot

abbrev pub part_of : Seen → Part
part_of s =
    record { taken = s.taken; honest = s.honest; brought = s.brought; left = snapshot s.last }

-- a part, and what is seen after it
abbrev pub then_see : Part → Seen → Seen
then_see p rest = record {
  taken = p.taken && rest.taken;
  honest = p.honest && rest.honest;
  brought = p.brought ++ rest.brought;
  last = rest.last;
}

seen-over : (w : World) (h : Happening) (a b : Seen)
    → seen_with w h (then_see (part_of a) b) ≡ then_see (part_of (seen_with w h a)) b
seen-over w h a b =
    made_alike (sym (and_assoc (is_taken (refusal w h.0)) a.taken b.taken))
    (sym (and_assoc (none_forged_in w h.0 (brought w h.0)) a.honest b.honest))
    (sym (append_assoc (cores_in (brought w h.0)) a.brought b.brought))
  where
    made_alike : {t t' n n' : Bool} {l l' : List Core} → t ≡ t' → n ≡ n' → l ≡ l'
        → ◌≡◌ {A = Seen} (record { taken = t; honest = n; brought = l; last = b.last })
        (record { taken = t'; honest = n'; brought = l'; last = b.last })
    made_alike p q r = λ i. record { taken = p i; honest = q i; brought = r i; last = b.last }

pub seen-append : (hs rest : List Happening) (w : World)
    → seen w (hs ++ rest) ≡ then_see (part_of (seen w hs)) (seen (after w hs) rest)
unfolding after
seen-append [] rest w = refl
seen-append (h ∷ hs) rest w =
    ap (seen_with w h) (seen-append hs rest (happens w h))
    ∙ seen-over w h (seen (happens w h) hs) (seen (after (happens w h) hs) rest)

-- from the snapshot s the part p is seen of these events, and then the rest from the snapshot that it leaves
pub seen-part : (s : Snapshot) (hs rest : List Happening) (p : Part) → all_near hs ≡ true
    → part_of (seen (restored s) hs) ≡ p
    → seen (restored s) (hs ++ rest) ≡ then_see p (seen (restored p.left) rest)
seen-part s hs rest p near e =
    seen-append hs rest (restored s)
    ∙ (ap (λ (w : World). then_see (part_of (seen (restored s) hs)) (seen w rest)) left
    ∙ ap (λ (x : Part). then_see x (seen (restored x.left) rest)) e)
  where
    left : after (restored s) hs ≡ restored (part_of (seen (restored s) hs)).left
    left =
        after-restored hs s near
        ∙ ap (λ (w : World). restored (snapshot w)) (sym (seen-last hs (restored s)))

-- ---- a run in which nothing is refused and no tag is forged

-- events with ample memory
abbrev pub happen : List Event → List Happening
happen events = map (λ e. (e, ample)) events

-- so a part shows these cores, and leaves this
abbrev pub shows : List Core → Snapshot → Part
shows cores left = record { taken = true; honest = true; brought = cores; left = left }

-- so it ends, after these cores
abbrev pub ends : Snapshot → List Core → Seen
ends last cores = record { taken = true; honest = true; brought = cores; last = restored last }

pub goes_on : (last s left : Snapshot) (events : List Event) (rest : List Happening) (cores more : List Core)
    → all_near (happen events) ≡ true → part_of (seen (restored s) (happen events)) ≡ shows cores left
    → seen (restored left) rest ≡ ends last more
    → seen (restored s) (amply events rest) ≡ ends last (cores ++ more)
goes_on last s left events rest cores more near e k =
    seen-part s (happen events) rest (shows cores left) near e ∙ ap (then_see (shows cores left)) k
