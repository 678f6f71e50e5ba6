-- The leader leads from its lock with the request, and all may follow.
use Rattle.ids.specs.declared.limits.TheConstants.{HEIGHT_LIMIT}
use Rattle.std.proofs.Common.{ℕ, suc, ◌≡◌, ◌<◌, ◌≤◌, ◌+◌, ◌⊎◌, ◌&&◌, Bool, true, false, cond, List, [], ◌∷◌}
use Rattle.std.proofs.Common.{◌++◌, length, refl, sym, ap, subst, ◌∙◌, arith, inl, inr}
use Rattle.std.proofs.lemmas.Bool.{cond-true, cond-false, cases_Bool, cases_eq, and_from, and_parts, or_left, or_right}
use Rattle.std.proofs.lemmas.Bool.{le-leb}
use Rattle.ids.specs.Sizes.{Sizes, leader, quorum, replicas}
use Rattle.definitions.specs.Lists.{Among}
use Rattle.definitions.specs.Branches.{Branch, branch_eq}
use Rattle.definitions.specs.Checks.{Identity, command_verifies, counted_voters}
use Rattle.definitions.specs.Chronicles.{Chronicle, Step.noted, Note.led_from, Note.got_request, taken_blocks}
use Rattle.definitions.specs.Chronicles.{voted_blocks, horizon, history, executed, decided, lock}
use Rattle.definitions.specs.Digests.{digest_of}
use Rattle.definitions.specs.Frames.{Command}
use Rattle.definitions.specs.Grounds.{is_justified, is_own_certified, own_counted, are_replicas, may_lead_from}
use Rattle.definitions.specs.Replicas.{MemorySupply.ample, Replica, Standing.running}
use Rattle.ids.specs.declared.fault.Fault.TheVariants as fault
use Rattle.definitions.specs.Rulings.{Ruling.due, Ruling.refusing, on_request}
use Rattle.definitions.specs.States.{Justified, view, qc_high, raised, leaf, pending, is_due}
use Rattle.definitions.specs.Worlds.{World, Event.relay, Happening, is_correct, self_of}
use Rattle.definitions.specs.Worlds as worlds
use Rattle.definitions.specs.Runs.{after}
use Rattle.definitions.specs.Events.{happens}
use Rattle.definitions.proofs.Horizons.{led-high}
use Rattle.recovery.specs.Correct.{OfCorrect, chronicle_of, lock_of, correct_replicas}
use Rattle.recovery.specs.Healing.{lead_with, to_climb}
use Rattle.recovery.specs.Locks.{high_of}
use Rattle.recovery.specs.Rounds.{Climbs, Leads, MayBurst}
use Rattle.recovery.proofs.Beginnings.{lead-comes, lead-leaf, lead-voted}
use Rattle.recovery.proofs.Climbing.{climbs-kept}
use Rattle.recovery.proofs.Correct.{among-correct, correct-listed}
use Rattle.recovery.proofs.Highs.{highest-voted-above}
use Rattle.recovery.proofs.Offers.{row-own, row-other}
use Rattle.recovery.proofs.Requests.{IsWanted, request-comes, wanted-after}
use Rattle.recovery.proofs.Rounds.{vheight-told, highest-voted-below}
use Rattle.recovery.proofs.Staged.{IsStaged, room_above}
use Rattle.recovery.proofs.Views.{not-less}
use Rattle.recovery.proofs.Ways.{IsOnWay, way-on}
use Rattle.recovery.proofs.Worlds.{IsMadeAs, made-both, keys-in, same-correct, same-self, Passes, passes-one}
use Rattle.recovery.proofs.Worlds.{passes-none}

-- ---- the leader's chronicle

-- told to lead from its highest certificate's block, it keeps that certificate
own-led : (self : Identity) (m : Branch) (c : Chronicle) → is_own_certified self m c ≡ true
    → is_own_certified self m (noted (led_from m) ∷ c) ≡ true
unfolding is_own_certified own_counted qc_high
own-led self m c e =
    subst (λ (j : Justified). (branch_eq j.block m
    && are_replicas self.sizes (quorum self.sizes) (counted_voters self j.certificate)) ≡ true)
    (sym (cond-true (branch_eq (qc_high self.sizes c).block m) (qc_high self.sizes c) _ (and_parts _ _ e).0)) e

climbs-led : (self : Identity) (v : ℕ) (m : Branch) (room : ℕ) (c : Chronicle) → Climbs self v m m room c
    → Climbs self v m m room (noted (led_from m) ∷ c)
unfolding view horizon taken_blocks
climbs-led self v m room c k =
    climbs-kept self v m m room c (noted (led_from m) ∷ c) refl refl refl (own-led self m c) k

climbs-requested : (self : Identity) (v : ℕ) (m : Branch) (room : ℕ) (c : Chronicle) (r : Command)
    → Climbs self v m m room c → Climbs self v m m room (noted (got_request r) ∷ c)
unfolding view horizon taken_blocks is_own_certified own_counted qc_high raised
climbs-requested self v m room c r k =
    climbs-kept self v m m room c (noted (got_request r) ∷ c) refl refl refl (λ o. o) k

-- who may climb so far may climb less far
climbs-less : (self : Identity) (v : ℕ) (m y : Branch) (room less : ℕ) (c : Chronicle) → less ≤ room
    → Climbs self v m y room c → Climbs self v m y less c
climbs-less self v m y room less c l k = record {
  in_view = k.in_view;
  stands = k.stands;
  over = k.over;
  ground = k.ground;
  reach = k.reach;
  safe = k.safe;
  clear = k.clear;
  trees = (let t = k.trees in omega (arith, t, l));
  heights = k.heights;
}

request-high : (s : Sizes) (r : Command) (c : Chronicle) → qc_high s (noted (got_request r) ∷ c) ≡ qc_high s c
unfolding qc_high raised
request-high s r c = refl

request-leaf : (self : Identity) (r : Command) (c : Chronicle) → leaf self (noted (got_request r) ∷ c) ≡ leaf self c
unfolding leaf qc_high raised
request-leaf self r c = cond-false _ _ _ (not-less (length (qc_high self.sizes c).block))

request-voted : (r : Command) (c : Chronicle) → voted_blocks (noted (got_request r) ∷ c) ≡ voted_blocks c
unfolding voted_blocks
request-voted r c = refl

-- the request waits alone, where it is due
request-pending : (m : Branch) (r : Command) (c : Chronicle)
    → pending (noted (got_request r) ∷ noted (led_from m) ∷ c) ≡ cond (is_due (history c) r) (r ∷ []) []
unfolding pending history executed decided taken_blocks
request-pending m r c = refl

-- there is room for it
room-for : (m : Branch) (r : Command) (c : Chronicle)
    → on_request r (noted (led_from m) ∷ c) ≡ due (noted (got_request r))
unfolding on_request pending
room-for m r c = none (is_due (history (noted (led_from m) ∷ c)) r)
  where
    none : (t : Bool)
        → cond (t && false) (refusing fault.PoolFull) (due (noted (got_request r))) ≡ due (noted (got_request r))
    none true = refl
    none false = refl

-- who may climb from its lock may lead from there
may-lead : (self : Identity) (v room : ℕ) (c : Chronicle) → Climbs self v (lock c) (lock c) room c
    → may_lead_from self (lock c) c ≡ true
unfolding may_lead_from
may-lead self v room c k =
    and_from _ _ (le-leb (length (lock c)) (length (lock c)) (omega arith)) (elim k.ground [
      | inl j ↦ or_left (is_justified (lock c) c) (is_own_certified self (lock c) c) j
      | inr o ↦ or_right (is_justified (lock c) c) (is_own_certified self (lock c) c) o
    ])

-- ---- the events

-- what the leader noted
abbrev told : Command → Branch → Chronicle → Chronicle
told c m before = noted (got_request c) ∷ noted (led_from m) ∷ before

record IsTold (w last : World) (l : ℕ) (m : Branch) (c : Command) : Type 0 where
  made : IsMadeAs w last
  session : last.session ≡ w.session
  goes : (last.replica l).standing ≡ running
  own : chronicle_of last l ≡ told c m (chronicle_of w l)
  others : (j : ℕ) → (j ≡ l → ⊥) → last.replica j ≡ w.replica j

module _ (sizes : Sizes) (start : World) (all : List Happening) where
  is-told : (w : World) (rest : List Happening) (k l : ℕ) (c : Command)
      → IsOnWay sizes start all w (lead_with k l (digest_of (lock_of w l)) w ++ rest) → is_correct w l ≡ true
      → (w.replica l).standing ≡ running → may_lead_from (self_of w l) (lock_of w l) (chronicle_of w l) ≡ true
      → IsWanted w k c
      → Passes w (lead_with k l (digest_of (lock_of w l)) w)
      × IsTold w (after w (lead_with k l (digest_of (lock_of w l)) w)) l (lock_of w l) c
  unfolding after
  is-told w rest k l c on cl goes may wanted =
      let m : Branch = lock_of w l in
      let ch : Chronicle = chronicle_of w l in
      let ev = worlds.lead l (digest_of m) in
      let one = lead-comes sizes start all w _ l on cl goes may in
      let mid : World = happens w (ev, ample) in
      let own1 = row-own w mid l (noted (led_from m)) one.1 in
      let own1c : chronicle_of mid l ≡ noted (led_from m) ∷ ch = ap (λ (x : Replica). x.chronicle) own1 in
      let on1 = way-on sizes start all w (ev, ample) _ on one.0 in
      let made1 = one.1.made in
      let two = request-comes sizes start all mid rest k l c on1 (same-correct w mid made1 l ∙ cl)
      (ap (λ (x : Replica). x.standing) own1) (wanted-after w ((ev, ample) ∷ []) k c made1 wanted)
      (ap (on_request c) own1c ∙ room-for m c ch) in
      let last : World = happens mid (relay k l, ample) in
      let own2 = row-own mid last l (noted (got_request c)) two.1 in (
        passes-one w (ev, ample) ((relay k l, ample) ∷ []) one.0
            (passes-one mid (relay k l, ample) [] two.0 (passes-none last)),
        record {
          made = made-both w mid last made1 two.1.made;
          session = two.1.session ∙ one.1.session;
          goes = ap (λ (x : Replica). x.standing) own2;
          own = ap (λ (x : Replica). x.chronicle) own2 ∙ ap (λ (x : Chronicle). noted (got_request c) ∷ x) own1c;
          others = λ j n. row-other mid last l (noted (got_request c)) two.1 j n
              ∙ row-other w mid l (noted (led_from m)) one.1 j n;
        },
      )

-- ---- what follows

-- All may climb from the leader's lock, and the request waits with it alone, or isn't due.
pub record IsReady (w last : World) (l v : ℕ) (m : Branch) (c : Command) : Type 0 where
  pub made : IsMadeAs w last
  pub session : last.session ≡ w.session
  pub may : MayBurst last l v (to_climb l last) (3 + 0) m
  pub limit : length m + to_climb l last + 3 < HEIGHT_LIMIT
  pub taken : taken_blocks (chronicle_of last l) ≡ taken_blocks (chronicle_of w l)
  pub waits : (is_due (history (chronicle_of w l)) c ≡ false) ⊎ (pending (chronicle_of last l) ≡ c ∷ [])

only-one : (t : Bool) (c q : Command) → Among q (cond t (c ∷ []) []) → q ≡ c
only-one true c q (inl e) = e
only-one true c q (inr i) = absurd i
only-one false c q i = absurd i

told-taken : (c : Command) (m : Branch) (ch : Chronicle) → taken_blocks (told c m ch) ≡ taken_blocks ch
unfolding taken_blocks
told-taken c m ch = refl

module _ (w last : World) (l v top k : ℕ) (c : Command) (staged : IsStaged w l v top (lock_of w l))
    (wanted : IsWanted w k c) (h : IsTold w last l (lock_of w l) c) where
  abbrev m : Branch
  m = lock_of w l

  abbrev ch : Chronicle
  ch = chronicle_of w l

  was : (r : ℕ) → is_correct last r ≡ true → is_correct w r ≡ true
  was r e = sym (same-correct w last h.made r) ∙ e

  -- it leads from there
  leaf-now : leaf (self_of last l) (chronicle_of last l) ≡ m
  leaf-now =
      (λ i. leaf (same-self w last h.made l i) (h.own i))
      ∙ (request-leaf (self_of w l) c (noted (led_from m) ∷ ch) ∙ lead-leaf (self_of w l) m ch)

  high-now : high_of last l ≡ m
  high-now =
      (λ i. (qc_high (h.made.sizes i) (h.own i)).block)
      ∙ (ap (λ (j : Justified). j.block) (request-high w.sizes c (noted (led_from m) ∷ ch)) ∙ led-high w.sizes m ch)

  waits-now : pending (chronicle_of last l) ≡ cond (is_due (history ch) c) (c ∷ []) []
  waits-now = ap pending h.own ∙ request-pending m c ch

  -- none voted meanwhile
  voted-same : (r : ℕ) → voted_blocks (chronicle_of last r) ≡ voted_blocks (chronicle_of w r)
  voted-same r = elim (cases_eq r l) [
    | inl i ↦ subst (λ (j : ℕ). voted_blocks (chronicle_of last j) ≡ voted_blocks (chronicle_of w j)) (sym i)
        (ap voted_blocks h.own ∙ (request-voted c (noted (led_from m) ∷ ch) ∙ lead-voted m ch))
    | inr n ↦ ap (λ (x : Replica). voted_blocks x.chronicle) (h.others r n)
  ]

  few-above : to_climb l last + (3 + 0) ≤ room_above top m
  few-above =
      let long = ap (λ (x : Branch). length x) leaf-now in
      let highest = highest-voted-below last (correct_replicas last) (suc top) (omega arith) (λ r e.
      let cr = was r (among-correct last (replicas last.sizes) r e) in
      let i = vheight-told (chronicle_of last r) (chronicle_of w r) (voted-same r) in
      let low = staged.low r cr in
      omega (arith, i, low)) in
      omega (arith, highest, long)

  -- all climb from there
  climb-now : OfCorrect last (λ r. Climbs (self_of last r) v m m (to_climb l last + (3 + 0)) (chronicle_of last r))
  climb-now r e =
      subst (λ (s : Identity). Climbs s v m m (to_climb l last + (3 + 0)) (chronicle_of last r))
      (sym (same-self w last h.made r))
      (climbs-less (self_of w r) v m m (room_above top m) (to_climb l last + (3 + 0)) (chronicle_of last r) few-above
      (elim (cases_eq r l) [
        | inl i ↦ subst (λ (j : ℕ). Climbs (self_of w j) v m m (room_above top m) (chronicle_of last j)) (sym i)
            (subst (λ (x : Chronicle). Climbs (self_of w l) v m m (room_above top m) x) (sym h.own)
            (climbs-requested (self_of w l) v m (room_above top m) (noted (led_from m) ∷ ch) c
            (climbs-led (self_of w l) v m (room_above top m) ch (staged.climbs l staged.correct))))
        | inr i ↦ subst (λ (x : Replica). Climbs (self_of w r) v m m (room_above top m) x.chronicle)
            (sym (h.others r i)) (staged.climbs r (was r e))
      ]))

  leads-now : Leads last l v m (to_climb l last + (3 + 0))
  leads-now = record {
    leader_is = ap (λ (s : Sizes). leader s v) h.made.sizes ∙ staged.leader_is;
    high = high-now;
    climbs = subst (λ (x : Branch). Climbs (self_of last l) v m x (to_climb l last + (3 + 0)) (chronicle_of last l))
        (sym leaf-now) (climb-now l (same-correct w last h.made l ∙ staged.correct));
    waiting = λ q i r e.
        ap (λ (s : Identity). command_verifies s q) (same-self w last h.made r)
        ∙ (ap (command_verifies (self_of w r))
        (only-one (is_due (history ch) c) c q (subst (λ (x : List Command). Among q x) waits-now i))
        ∙ wanted.verifies r (was r e));
  }

  is-ready : IsReady w last l v m c
  is-ready =
      let long = ap (λ (x : Branch). length x) leaf-now in
      let limit = staged.limit in
      let few = few-above in
      record {
        made = h.made;
        session = h.session;
        may = record {
          climbing = record {
            keys = keys-in w last h.made staged.keys;
            goes = λ r e. elim (cases_eq r l) [
              | inl i ↦ subst (λ (j : ℕ). (last.replica j).standing ≡ running) (sym i) h.goes
              | inr i ↦ ap (λ (x : Replica). x.standing) (h.others r i) ∙ staged.goes r (was r e)
            ];
            correct = same-correct w last h.made l ∙ staged.correct;
            leads_it = leads-now;
            leaf_is = leaf-now;
            climbs = climb-now;
          };
          low = λ r e.
              let q = highest-voted-above last (correct_replicas last) r (correct-listed last r e) in
              omega (arith, q, long);
          some = omega arith;
          top = omega (arith, limit, few);
        };
        limit = omega (arith, limit, few);
        taken = ap taken_blocks h.own ∙ told-taken c m ch;
        waits = elim (cases_Bool (is_due (history ch) c)) [
          | inl t ↦ inr (waits-now ∙ cond-true (is_due (history ch) c) (c ∷ []) [] t)
          | inr f ↦ inl f
        ];
      }

-- ---- the phase

module _ (sizes : Sizes) (start : World) (all : List Happening) where
  pub ready : (w : World) (rest : List Happening) (k l v top : ℕ) (c : Command)
      → IsOnWay sizes start all w (lead_with k l (digest_of (lock_of w l)) w ++ rest)
      → IsStaged w l v top (lock_of w l) → IsWanted w k c
      → Passes w (lead_with k l (digest_of (lock_of w l)) w)
      × IsReady w (after w (lead_with k l (digest_of (lock_of w l)) w)) l v (lock_of w l) c
  ready w rest k l v top c on staged wanted =
      let told_it = is-told sizes start all w rest k l c on staged.correct (staged.goes l staged.correct)
      (may-lead (self_of w l) v (room_above top (lock_of w l)) (chronicle_of w l) (staged.climbs l staged.correct))
      wanted in
      (told_it.0, is-ready w _ l v top k c staged wanted told_it.1)
