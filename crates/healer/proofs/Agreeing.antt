-- A leader brings a request to be executed, and its client hears of it.
use Rattle.ids.specs.declared.fault.Fault.{Fault}
use Rattle.ids.specs.declared.fault.Fault.TheVariants as fault
use Rattle.std.proofs.Common.{ℕ, zero, suc, ◌≡◌, ◌==◌, List, [], ◌∷◌, map, length, find, reverse}
use Rattle.std.proofs.Common.{sym, ap, subst, ◌∙◌, refl, None, Result, OnOk}
use Rattle.std.proofs.lemmas.Bool.{cond_both, eqb-true}
use Rattle.definitions.specs.Branches.{Branch, branch_eq, just2, highest}
use Rattle.definitions.specs.Bytes.{Bytes}
use Rattle.definitions.specs.Checks.{Identity}
use Rattle.definitions.specs.Chronicles.{Admitted, Chronicle, taken_blocks, lock, Step.noted, Note.timed_out}
use Rattle.definitions.specs.Digests.{digest_of}
use Rattle.definitions.specs.Events.{Effect, effect, acts, stepped, happens, nothing, party_of}
use Rattle.definitions.specs.Replicas.{MemorySupply.ample, Replica, Reaction, Standing, Standing.running, Standing.stopped}
use Rattle.definitions.specs.Replicas.{Standing.cut_short, Reaction.fails, on_ruling, on_step, step}
use Rattle.definitions.specs.Rulings.{Input.timeout_in, ruling, conflicts}
use Rattle.definitions.specs.Runs.{after}
use Rattle.definitions.specs.Worlds.{World, Event.timeout, Happening, self_of}
use Rattle.recovery.specs.Correct.{amply, chronicle_of, lock_of, correct_replicas}
use Rattle.recovery.specs.Healing.{Phase, in_turn, highest_locked, over_lock, justified_by, lowest_first, timeouts}
use Rattle.recovery.specs.Healing.{waits_until, come_to, view_to_come, make_first, fetch_all, lead_with, rounds, to_climb}
use Rattle.recovery.specs.Healing.{agree_on, ask_again, heal}
use Rattle.healer.specs.Courses.{Course, Goes, GoesWhere, Told, ToldWhere, HasReplica, AreCorrect}
use Rattle.healer.specs.Fetching.{fetch_by}
use Rattle.healer.specs.Grounds.{IsGround}
use Rattle.healer.proofs.Asking.{fetches-branch}
use Rattle.healer.proofs.Locks.{leader-is-replica}
use Rattle.healer.proofs.Members.{still-correct, still-replica}
use Rattle.healer.proofs.Phases.{after-append}
use Rattle.healer.proofs.Turns.{where-told, where-too, turn-first, turn-last, on-ok-too}

-- ---- timeouts take no block

step-keeps : (self : Identity) (r : Replica) → taken_blocks (step self ample timeout_in r).0.chronicle ≡ taken_blocks r.chronicle
unfolding step on_ruling on_step ruling taken_blocks
step-keeps self r = by r.standing
  where
    by : (s : Standing)
        → taken_blocks (elim s as (λ x. Replica × Reaction) [
          | running ↦ on_ruling self ample (ruling self timeout_in r.chronicle) r.chronicle
          | stopped ↦ (r, fails fault.Stopped)
          | cut_short held ↦ (r, fails fault.Stopped)
        ]).0.chronicle ≡ taken_blocks r.chronicle
    by running =
        cond_both (conflicts (noted timed_out) r.chronicle) _ _
        (λ (x : Replica × Reaction). taken_blocks x.0.chronicle ≡ taken_blocks r.chronicle) (λ t. refl) (λ t. refl)
    by stopped = refl
    by (cut_short held) = refl

acts-keep : (w : World) (r j : ℕ)
    → taken_blocks ((acts w (timeout r) ample).replica j).chronicle ≡ taken_blocks (chronicle_of w j)
unfolding acts stepped
acts-keep w r j =
    cond_both (j == r) (step (self_of w r) ample timeout_in (w.replica r)).0 (w.replica j)
    (λ (x : Replica). taken_blocks x.chronicle ≡ taken_blocks (w.replica j).chronicle)
    (λ e. step-keeps (self_of w r) (w.replica r)
    ∙ ap (λ (i : ℕ). taken_blocks (w.replica i).chronicle) (sym (eqb-true j r e))) (λ e. refl)

effect-keeps : (w : World) (r j : ℕ)
    → taken_blocks ((effect w (timeout r, ample)).replica j).chronicle ≡ taken_blocks (chronicle_of w j)
unfolding effect nothing
effect-keeps w r j =
    cond_both (w.is_faulty (party_of (timeout r))) (nothing w None) (acts w (timeout r) ample)
    (λ (f : Effect). taken_blocks (f.replica j).chronicle ≡ taken_blocks (w.replica j).chronicle) (λ t. refl)
    (λ t. acts-keep w r j)

timeout-keeps : (w : World) (r j : ℕ)
    → taken_blocks (chronicle_of (happens w (timeout r, ample)) j) ≡ taken_blocks (chronicle_of w j)
unfolding happens
timeout-keeps w r j = effect-keeps w r j

timeouts-keep : (r n : ℕ) (w : World) (j : ℕ)
    → taken_blocks (chronicle_of (after w (amply (timeouts r n))) j) ≡ taken_blocks (chronicle_of w j)
unfolding timeouts after
timeouts-keep r zero w j = refl
timeouts-keep r (suc n) w j = timeouts-keep r n (happens w (timeout r, ample)) j ∙ timeout-keeps w r j

waits-keep : (v : ℕ) (rs : List ℕ) (w : World) (j : ℕ)
    → taken_blocks (chronicle_of (after w (in_turn (map (waits_until v) rs) w)) j) ≡ taken_blocks (chronicle_of w j)
unfolding in_turn after
waits-keep v [] w j = refl
waits-keep v (r ∷ rs) w j =
    let hs : List Happening = waits_until v r w in
    ap (λ (z : World). taken_blocks (chronicle_of z j)) (after-append w hs (in_turn (map (waits_until v) rs) (after w hs)))
    ∙ (waits-keep v rs (after w hs) j ∙ timeouts-keep r _ w j)

same-lock : (c d : Chronicle) → taken_blocks d ≡ taken_blocks c → lock d ≡ lock c
unfolding lock
same-lock c d e = ap (λ (xs : List Admitted). highest (map (λ a. just2 a.branch) xs)) e

-- so what justifies a lock stays
over-kept : (v l : ℕ) (w : World) → over_lock l (after w (come_to v w)) ≡ over_lock l w
unfolding come_to
over-kept v l w =
    let e : taken_blocks (chronicle_of (after w (come_to v w)) l) ≡ taken_blocks (chronicle_of w l) =
    waits-keep v (correct_replicas w) w l in
    ap (λ (m : Branch). justified_by (find (λ a. branch_eq (just2 a.branch) m)
    (reverse (taken_blocks (chronicle_of (after w (come_to v w)) l))))) (same-lock (chronicle_of w l)
    (chronicle_of (after w (come_to v w)) l) e)
    ∙ ap (λ (xs : List Admitted). justified_by (find (λ a. branch_eq (just2 a.branch) (lock_of w l)) (reverse xs))) e

-- ---- the phases of an agreement

-- what is known of a world in which these correct replicas agree under this leader
abbrev pub MayAgree : List ℕ → ℕ → Bytes → ℕ → List Bytes → World → Type 0
MayAgree rs l lock height digests w =
    AreCorrect rs w × (l ≡ highest_locked w rs) × IsGround l lock height digests w

-- what is known behind that: the leader is one of them
abbrev AreLed : List ℕ → ℕ → World → Type 0
AreLed rs l w = AreCorrect rs w × HasReplica l w

still-led : (rs : List ℕ) (l : ℕ) (w : World) (hs : List Happening) → AreLed rs l w → AreLed rs l (after w hs)
still-led rs l w hs x = (still-correct rs w hs x.0, still-replica l w hs x.1)

-- the phases, by what the code computed
phases : (k l view : ℕ) → Bytes → List Bytes → List Phase
phases k l view lock digests =
    come_to view
    ∷ make_first l
    ∷ in_turn (map fetch_by digests)
    ∷ lead_with k l lock
    ∷ (λ v. rounds (to_climb l v) l v) ∷ []

-- they are an agreement's
agreement-is : (k l view height : ℕ) (lock : Bytes) (rs : List ℕ) (digests : List Bytes) (w : World)
    → view ≡ view_to_come l w → MayAgree rs l lock height digests w
    → in_turn (phases k l view lock digests) w ≡ agree_on k w
unfolding phases agree_on
agreement-is k l view height lock rs digests w sees x =
    (λ i. in_turn (come_to (sees i) ∷ make_first l ∷ fetched i ∷ lead_with k l (x.2.locked i)
    ∷ (λ v. rounds (to_climb l v) l v) ∷ []) w)
    ∙ ap under (x.1 ∙ ap (λ (ps : List ℕ). highest_locked w ps) x.0)
  where
    fetched : in_turn (map fetch_by digests) ≡ fetch_all (lowest_first (over_lock l w))
    fetched = λ i. λ v.
        (ap (λ (ds : List Bytes). in_turn (map fetch_by ds) v) x.2.below ∙ fetches-branch (lowest_first (over_lock l w)) v) i

    -- with this leader
    under : ℕ → List Happening
    under m =
        in_turn (come_to (view_to_come m w) ∷ make_first m ∷ fetch_all (lowest_first (over_lock m w))
        ∷ lead_with k m (digest_of (lock_of w m)) ∷ (λ v. rounds (to_climb m v) m v) ∷ []) w

-- it leads, and its blocks decide
leads-on : (k l count : ℕ) (lock : Bytes) (rs : List ℕ) (d e f : Course) → Goes d (lead_with k l lock) e
    → ToldWhere e (AreLed rs l) (λ w. count ≡ to_climb l w) → GoesWhere e (AreCorrect rs) (rounds count l) f
    → GoesWhere d (AreLed rs l) (in_turn (lead_with k l lock ∷ (λ v. rounds (to_climb l v) l v) ∷ [])) f
leads-on k l count lock rs d e f lead climbs decide =
    let last : Phase = λ v. rounds (to_climb l v) l v in
    turn-first d e f (AreLed rs l) (AreLed rs l) (lead_with k l lock) (last ∷ [])
    (where-too d e (AreLed rs l) (lead_with k l lock) lead)
    (turn-last e f (AreLed rs l) last (where-told e f (AreLed rs l) (rounds count l) last
    (λ hs w t x. ap (λ (n : ℕ). rounds n l w) (climbs hs w t x)) (λ hs w t x. decide hs w t x.0)))
    (λ w x. still-led rs l w (lead_with k l lock w) x)

pub agrees : (k l view height count : ℕ) (lock : Bytes) (rs : List ℕ) (digests below : List Bytes)
    (a b c d e f : Course) (r : Result (Unit {0}) Fault) → digests ≡ below
    → ToldWhere a (AreCorrect rs) (λ w. view ≡ view_to_come l w) → GoesWhere a (AreCorrect rs) (come_to view) b
    → GoesWhere b (λ w. AreCorrect rs w × (height ≡ length (over_lock l w))) (make_first l) c
    → GoesWhere c (AreCorrect rs) (in_turn (map fetch_by digests)) d → Goes d (lead_with k l lock) e
    → ToldWhere e (AreLed rs l) (λ w. count ≡ to_climb l w) → OnOk r (GoesWhere e (AreCorrect rs) (rounds count l) f)
    → OnOk r (GoesWhere a (MayAgree rs l lock height below) (agree_on k) f)
unfolding phases
agrees k l view height count lock rs digests below a b c d e f r same sees come first fetch lead climbs last =
    on-ok-too _ _ r (λ decide.
    where-told a f P (in_turn (phases k l view lock digests)) (agree_on k)
    (λ hs w t x. agreement-is k l view height lock rs digests w (sees hs w t x.0)
    (subst (λ (ds : List Bytes). MayAgree rs l lock height ds w) (sym same) x))
    (turn-first a b f P Q (come_to view) (make_first l ∷ fetching ∷ deciding) (λ hs w t x. come hs w t x.0)
    (turn-first b c f Q (AreLed rs l) (make_first l) (fetching ∷ deciding) (λ hs w t x. first hs w t (x.0.0, x.1))
    (turn-first c d f (AreLed rs l) (AreLed rs l) fetching deciding (λ hs w t x. fetch hs w t x.0)
    (leads-on k l count lock rs d e f lead climbs decide)
    (λ w x. still-led rs l w (fetching w) x)) (λ w x. still-led rs l w (make_first l w) x.0))
    (λ w x. (
      still-led rs l w (come_to view w) (x.0, leader-is-replica rs l w x.0 x.1),
      x.2.high ∙ ap (λ (y : Branch). length y) (sym (over-kept view l w)),
    )))) last
  where
    P : World → Type 0
    P = MayAgree rs l lock height below

    Q : World → Type 0
    Q w = AreLed rs l w × (height ≡ length (over_lock l w))

    fetching : Phase
    fetching = in_turn (map fetch_by digests)

    deciding : List Phase
    deciding = lead_with k l lock ∷ (λ v. rounds (to_climb l v) l v) ∷ []

-- the leader and its ground are what they have to be
pub agrees-on : (k l height : ℕ) (lock : Bytes) (rs : List ℕ) (digests : List Bytes) (a b : Course)
    (r : Result (Unit {0}) Fault) → ToldWhere a (AreCorrect rs) (λ w. l ≡ highest_locked w rs)
    → ToldWhere a (HasReplica l) (IsGround l lock height digests)
    → OnOk r (GoesWhere a (MayAgree rs l lock height digests) (agree_on k) b)
    → OnOk r (GoesWhere a (AreCorrect rs) (agree_on k) b)
agrees-on k l height lock rs digests a b r leads ground h =
    on-ok-too _ _ r (λ g hs w t x.
    let is = leads hs w t x in
    g hs w t (x, is, ground hs w t (leader-is-replica rs l w x is))) h

-- ---- all of it

-- the right correct replicas were handed in
pub heals-all : (k : ℕ) (rs : List ℕ) (a c : Course) (r : Result (Unit {0}) Fault)
    → Told a (AreCorrect rs) → OnOk r (GoesWhere a (AreCorrect rs) (heal k) c) → OnOk r (Goes a (heal k) c)
heals-all k rs a c r told h = on-ok-too _ _ r (λ g hs w t. g hs w t (told hs w t)) h

pub heals : (k : ℕ) (rs : List ℕ) (P : World → Type 0) (a b c : Course) (r : Result (Unit {0}) Fault)
    → ((w : World) → P w → AreCorrect rs w) → GoesWhere a P (agree_on k) b
    → OnOk r (GoesWhere b (AreCorrect rs) (ask_again k) c) → OnOk r (GoesWhere a P (heal k) c)
unfolding heal
heals k rs P a b c r own g h =
    on-ok-too _ _ r (λ m.
    turn-first a b c P (AreCorrect rs) (agree_on k) (ask_again k ∷ []) g
    (turn-last b c (AreCorrect rs) (ask_again k) m)
    (λ w x. still-correct rs w (agree_on k w) (own w x))) h
