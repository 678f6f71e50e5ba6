-- A burst: a leader makes blocks, and then the others are offered all.
use Rattle.ids.specs.declared.limits.TheConstants.{HEIGHT_LIMIT}
use Rattle.std.proofs.Common.{ℕ, zero, suc, ◌≡◌, ◌<◌, ◌+◌, ◌==◌, not, Bool, true, false, cond, List, [], ◌∷◌}
use Rattle.std.proofs.Common.{◌++◌, map, filter, length, drop, refl, sym, ap, subst, ◌∙◌, arith, inl, inr, Ok}
use Rattle.std.proofs.Common.{true≢false}
use Rattle.std.proofs.lemmas.Bool.{cases_eq, eq-eqb, ne_eqb, not-true}
use Rattle.std.proofs.lemmas.List.{append-nil, append_assoc, map-append}
use Rattle.std.proofs.Math.Seq.{drop-append_seam}
use Rattle.ids.specs.Sizes.{Sizes, replicas, leader}
use Rattle.definitions.specs.Lists.{Among, AreDistinct}
use Rattle.definitions.specs.Branches.{Branch, IsBranch, Extends, just1}
use Rattle.definitions.specs.Checks.{Identity, command_verifies}
use Rattle.definitions.specs.Chronicles.{Chronicle, voted_blocks, vheight}
use Rattle.definitions.specs.Replicas.{MemorySupply.ample, Replica, Standing.running}
use Rattle.definitions.specs.States.{leaf, qc_high, pending}
use Rattle.definitions.specs.Worlds.{World, Sent, Event, Event.offer, Happening, Source.of_record, new_world}
use Rattle.definitions.specs.Worlds.{is_correct, self_of}
use Rattle.definitions.specs.Runs.{run, after}
use Rattle.definitions.proofs.Lists.{Among-either, Among-filter, Among-kept}
use Rattle.recovery.specs.Correct.{OfCorrect, ShareKeys, chronicle_of, correct_below}
use Rattle.recovery.specs.Correct.{correct_replicas, amply}
use Rattle.recovery.specs.Healing.{in_turn, sent_since, numbers_of, is_proposal, offered_to, make_blocks}
use Rattle.recovery.specs.Healing.{others, burst}
use Rattle.recovery.specs.Rounds.{Climbs, Leads, MayBurst, CarriesWaiting, IsVotedForByAll, BurstsAreVotedFor}
use Rattle.recovery.proofs.Correct.{among-correct, correct-listed}
use Rattle.recovery.proofs.Fetched.{distinct-last}
use Rattle.recovery.proofs.Making.{made-all, up-is}
use Rattle.recovery.proofs.Offers.{GoesOn, goes-none, goes-both, Chain, chain-later, chain-up, chain-justifies, grown}
use Rattle.recovery.proofs.Offers.{grown-is, offers-of, offers-all, IsStill}
use Rattle.recovery.proofs.Ways.{IsOnWay, KnownAt, on-way-from, on-way, way-past}
use Rattle.recovery.proofs.Wells.{sound-of}
use Rattle.recovery.proofs.Worlds.{IsMadeAs, keys-in, same-correct, same-self, Passes}
use Rattle.recovery.proofs.Worlds.{passes-none, passes-append}
use Rattle.recovery.proofs.Worlds.{after-append}

-- ---- the correct replicas are distinct

pub below-correct : (w : World) (n r : ℕ) → Among r (correct_below w n) → r < n
unfolding correct_below
below-correct w zero r m = absurd m
below-correct w (suc n) r m =
    elim (Among-either r (correct_below w n) (cond (is_correct w n) (n ∷ []) []) m) [
      | inl k ↦ (let l = below-correct w n r k in omega (arith, l))
      | inr k ↦ by (is_correct w n) k
    ]
  where
    by : (t : Bool) → Among r (cond t (n ∷ []) []) → r < suc n
    by true (inl e) = omega (arith, e)
    by true (inr k) = absurd k
    by false k = absurd k

pub distinct-correct : (w : World) (n : ℕ) → AreDistinct (correct_below w n)
unfolding correct_below
distinct-correct w zero = tt
distinct-correct w (suc n) = by (is_correct w n) (distinct-correct w n)
  where
    by : (t : Bool) → AreDistinct (correct_below w n) → AreDistinct (correct_below w n ++ cond t (n ∷ []) [])
    by true d = distinct-last (correct_below w n) n d (below-correct w n)
    by false d = subst AreDistinct (sym (append-nil (correct_below w n))) d

pub distinct-kept : (p : ℕ → Bool) (xs : List ℕ) → AreDistinct xs → AreDistinct (filter p xs)
distinct-kept p [] d = tt
distinct-kept p (x ∷ xs) d = by (p x) (distinct-kept p xs d.1)
  where
    by : (t : Bool) → AreDistinct (filter p xs) → AreDistinct (cond t (x ∷ filter p xs) (filter p xs))
    by true h = (λ m. d.0 (Among-filter p xs x m).0, h)
    by false h = h

-- ---- offers to several

-- a replica to which the blocks may be offered
record IsReady (w : World) (v room : ℕ) (m last : Branch) (ks : List ℕ) (r : ℕ) : Type 0 where
  correct : is_correct w r ≡ true
  goes : (w.replica r).standing ≡ running
  climbs : Climbs (self_of w r) v m m (grown ks room) (chronicle_of w r)
  low : vheight (chronicle_of w r) < length last

ready-later : (w mid : World) (v room : ℕ) (m last : Branch) (ks : List ℕ) (r : ℕ) → IsMadeAs w mid
    → mid.replica r ≡ w.replica r → IsReady w v room m last ks r → IsReady mid v room m last ks r
ready-later w mid v room m last ks r made e h = record {
  correct = same-correct w mid made r ∙ h.correct;
  goes = ap (λ (x : Replica). x.standing) e ∙ h.goes;
  climbs = subst (λ (x : Replica). Climbs (self_of mid r) v m m (grown ks room) x.chronicle) (sym e)
      (subst (λ (s : Identity). Climbs s v m m (grown ks room) (chronicle_of w r)) (sym
      (same-self w mid made r)) h.climbs);
  low = subst (λ (x : Replica). vheight x.chronicle < length last) (sym e) h.low;
}

-- what offers leave of one
record HasVoted (self : Identity) (v room : ℕ) (m last : Branch) (r : Replica) : Type 0 where
  going_on : r.standing ≡ running
  climbs : Climbs self v m last room r.chronicle
  voted : Among last (voted_blocks r.chronicle)

record OfferedEach (w next : World) (v room : ℕ) (m last : Branch) (rs : List ℕ) : Type 0 where
  goes : GoesOn w next
  others_are : (j : ℕ) → (Among j rs → ⊥) → next.replica j ≡ w.replica j
  each : (r : ℕ) → Among r rs → HasVoted (self_of w r) v room m last (next.replica r)
  still : (r : ℕ) → Among r rs → IsStill w.sizes m (length last) (chronicle_of w r) (chronicle_of next r)

module _ (sizes : Sizes) (start : World) (all : List Happening) (v room : ℕ) (m last : Branch) (br : IsBranch m)
    (top : length last < HEIGHT_LIMIT) (ks : List ℕ) (some : 0 < length ks) where
  offered-each : (rs : List ℕ) (w : World) (rest : List Happening)
      → IsOnWay sizes start all w (amply (offered_to rs ks) ++ rest) → ShareKeys w → AreDistinct rs
      → Chain w v m m ks last → ((r : ℕ) → Among r rs → IsReady w v room m last ks r)
      → Passes w (amply (offered_to rs ks)) × OfferedEach w (after w (amply (offered_to rs ks))) v room m last rs
  unfolding offered_to offers-of after
  offered-each [] w rest on keys d chain ready = (
    passes-none w,
    record {
      goes = goes-none w;
      others_are = λ j n. refl;
      each = λ r n. absurd n;
      still = λ r n. absurd n;
    },
  )
  offered-each (r ∷ rs) w rest on keys d chain ready =
      let here : List Happening = offers-of r ks in
      let later : List Happening = amply (offered_to rs ks) in
      let is : amply (offered_to (r ∷ rs) ks) ≡ here ++ later =
      map-append (λ (e : Event). (e, ample)) (map (λ k. offer r (of_record k)) ks) (offered_to rs ks) in
      let on0 = subst (IsOnWay sizes start all w) (append_assoc here later rest)
      (subst (λ (x : List Happening). IsOnWay sizes start all w (x ++ rest)) is on) in
      let own = ready r (inl refl) in
      let one = offers-all sizes start all r v m last br top ks w
      (later ++ rest) m room on0 keys own.correct own.goes chain
      own.climbs in
      let o = one.1 in
      let mid : World = after w here in
      let onm = way-past sizes start all here (later ++ rest) w on0 one.0 in
      let apart : (j : ℕ) → Among j rs → (j ≡ r → ⊥) = λ j n e. d.0 (subst (λ (i : ℕ). Among i rs) e n) in
      let more = offered-each rs mid rest onm (keys-in w mid o.goes.made keys) d.1
      (chain-later w mid o.goes v m m ks last chain)
      (λ j n. ready-later w mid v room m last ks j o.goes.made (o.others j (apart j n)) (ready j (inr n))) in
      let end : World = after mid later in
      let each : (j : ℕ) → Among j (r ∷ rs) → HasVoted (self_of w j) v room m last (end.replica j) =
      λ j n. elim n [
        | inl e ↦ subst (λ (i : ℕ). HasVoted (self_of w i) v room m last (end.replica i)) (sym e)
            (subst (λ (x : Replica). HasVoted (self_of w r) v room m last x) (sym (more.1.others_are r d.0)) (record {
              going_on = o.going_on;
              climbs = o.climbs;
              voted = o.voted own.low some;
            }))
        | inr k ↦ subst (λ (s : Identity). HasVoted s v room m last (end.replica j)) (same-self w mid o.goes.made j)
            (more.1.each j k)
      ] in (
        subst (Passes w) (sym is) (passes-append w here later one.0 more.0),
        subst (λ (z : World). OfferedEach w z v room m last (r ∷ rs))
            (sym (ap (after w) is ∙ after-append w here later)) (record {
              goes = goes-both w mid end o.goes more.1.goes;
              others_are = λ j n. more.1.others_are j (λ k. n (inr k)) ∙ o.others j (λ e. n (inl e));
              each = each;
              still = λ j n. elim n [
                | inl e ↦ subst (λ (i : ℕ). IsStill w.sizes m (length last) (chronicle_of w i)
                    (chronicle_of end i)) (sym e)
                    (subst (λ (x : Replica). IsStill w.sizes m (length last) (chronicle_of w r) x.chronicle)
                    (sym (more.1.others_are r d.0)) o.still)
                | inr k ↦ subst (λ (x : Replica). IsStill w.sizes m (length last) x.chronicle (chronicle_of end j))
                    (o.others j (apart j k))
                    (subst (λ (s : Sizes). IsStill s m (length last) (chronicle_of mid j) (chronicle_of end j))
                    o.goes.made.sizes
                    (more.1.still j k))
              ];
            }),
      )

-- ---- the burst

burst-is : (n l : ℕ) (w : World)
    → burst n l w
    ≡ make_blocks n l w
    ++ amply (offered_to (others l (after w (make_blocks n l w)))
    (sent_since (length w.sent) is_proposal (after w (make_blocks n l w))))
unfolding burst in_turn
burst-is n l w = ap (λ (x : List Happening). make_blocks n l w ++ x) (append-nil _)

-- what a burst leaves
pub record HasBurst (w end : World) (l v n room : ℕ) (m : Branch) : Type 0 where
  pub voted_for : IsVotedForByAll w end l v n room m (leaf (self_of w l) (chronicle_of end l))
  pub goes : GoesOn w end
  pub still : OfCorrect w (λ r. IsStill w.sizes m (length (leaf (self_of w l) (chronicle_of end l))) (chronicle_of w r)
      (chronicle_of end r))

module _ (sizes : Sizes) (start : World) (all : List Happening) where
  pub burst-voted : (w : World) (rest : List Happening) (l v n room : ℕ) (m : Branch)
      → IsOnWay sizes start all w (burst n l w ++ rest) → MayBurst w l v n room m
      → HasBurst w (after w (burst n l w)) l v n room m
  unfolding after
  burst-voted w rest l v n room m on may =
      let from = may.climbing in
      let mk : List Happening = make_blocks n l w in
      let mid : World = after w mk in
      let rs : List ℕ = others l mid in
      let on0 = subst (λ (x : List Happening). IsOnWay sizes start all w (x ++ rest)) (burst-is n l w) on in
      let on1 = subst (IsOnWay sizes start all w)
      (append_assoc mk (amply (offered_to rs (sent_since (length w.sent) is_proposal mid))) rest) on0 in
      let gw = on-way sizes start all w _ on1 in
      let cl = from.correct in
      let br : IsBranch m =
      (sound-of (KnownAt sizes start all) w gw l cl).is_tree.branches m (from.climbs l cl).stands in
      let leafw = ap (λ (x : Branch). length x) from.leaf_is in
      let top = may.top in
      let made = made-all sizes start all l v m br n w _ room on1 from.keys cl (from.goes l cl)
      (subst (Leads w l v m) (sym (up-is n room)) from.leads_it) (omega (arith, leafw, top)) in
      let a = made.1 in
      let ks : List ℕ = a.ks in
      let last : Branch = leaf (self_of mid l) (chronicle_of mid l) in
      let drops : drop (length w.sent) mid.sent ≡ a.goes.more =
      ap (λ (x : List Sent). drop (length w.sent) x) a.goes.sent ∙ drop-append_seam w.sent a.goes.more in
      let numbers : sent_since (length w.sent) is_proposal mid ≡ ks =
      ap (λ (x : List Sent). numbers_of is_proposal (length w.sent) x) drops ∙ a.numbers in
      let later : List Happening = amply (offered_to rs ks) in
      let is : burst n l w ≡ mk ++ later =
      burst-is n l w ∙ ap (λ (x : List ℕ). mk ++ amply (offered_to rs x)) numbers in
      let onm0 = way-past sizes start all mk _ w on1 made.0 in
      let onm = subst (λ (x : List ℕ). IsOnWay sizes start all mid (amply (offered_to rs x) ++ rest)) numbers onm0 in
      let chain : Chain mid v m m ks last = subst (λ (x : Branch). Chain mid v m x ks last) from.leaf_is a.chain in
      let count = a.count in
      let high = chain-up mid v m m ks last chain in
      let some = may.some in
      let g0 = grown-is ks room in
      let grow : grown ks room ≡ n + room = omega (arith, g0, count) in
      let other : (r : ℕ) → Among r rs → (is_correct mid r ≡ true) × (r ≡ l → ⊥) =
      λ r k. (let f = Among-filter (λ (i : ℕ). not (i == l)) (correct_replicas mid) r k in (
        among-correct mid (replicas mid.sizes) r f.0,
        λ e. true≢false (sym (eq-eqb r l e) ∙ not-true (r == l) f.1),
      )) in
      let ready : (r : ℕ) → Among r rs → IsReady mid v room m last ks r =
      λ r k. (let o = other r k in
      let cr = sym (same-correct w mid a.goes.made r) ∙ o.0 in
      let low = may.low r cr in
      ready-later w mid v room m last ks r a.goes.made (a.others r o.1) (record {
        correct = cr;
        goes = from.goes r cr;
        climbs = subst (λ (x : ℕ). Climbs (self_of w r) v m m x (chronicle_of w r)) (sym grow) (from.climbs r cr);
        low = omega (arith, low, high, count);
      })) in
      let distinct = distinct-kept (λ r. not (r == l)) (correct_replicas mid) (distinct-correct mid
      (replicas mid.sizes)) in
      let b = offered-each sizes start all v room m last br (omega (arith, high, count, top)) ks (omega
      (arith, count, some))
      rs mid rest onm (keys-in w mid a.goes.made from.keys) distinct chain ready in
      let o = b.1 in
      let end : World = after mid later in
      let ends : after w (burst n l w) ≡ end = ap (after w) is ∙ after-append w mk later in
      let mine : end.replica l ≡ mid.replica l = o.others_are l (λ k. (other l k).1 refl) in
      let minec = ap (λ (x : Replica). x.chronicle) mine in
      let goes = goes-both w mid end a.goes o.goes in
      let selfm = same-self w mid a.goes.made l in
      let leaf2 : leaf (self_of w l) (chronicle_of end l) ≡ last = λ i. leaf (sym selfm i) (minec i) in
      let x : Branch = leaf (self_of w l) (chronicle_of end l) in
      let long = ap (λ (z : Branch). length z) leaf2 in
      let lowl = may.low l cl in
      let their : (r : ℕ) → is_correct end r ≡ true → (r ≡ l → ⊥) → HasVoted (self_of mid r) v room m last
      (end.replica r) =
      λ r c k. (let cm = sym (same-correct mid end o.goes.made r) ∙ c in
      o.each r (Among-kept (λ (i : ℕ). not (i == l)) (correct_replicas mid) r (correct-listed mid r cm)
      (ap not (ne_eqb r l k)))) in
      let votedl : Among last (voted_blocks (chronicle_of end l)) =
      subst (λ (z : Chronicle). Among last (voted_blocks z)) (sym minec)
      (a.voted some (omega (arith, lowl, high, count))) in
      let voted : IsVotedForByAll w end l v n room m x = record {
        ran = ap (run w) is ∙ (passes-append w mk later made.0 b.0 ∙ ap (λ (z : World). Ok z)
            (after-append w mk later));
        going_on = λ r c. elim (cases_eq r l) [
          | inl e ↦ subst (λ (i : ℕ). (end.replica i).standing ≡ running) (sym e)
              (ap (λ (z : Replica). z.standing) mine ∙ a.going_on)
          | inr k ↦ (their r c k).going_on
        ];
        high = omega (arith, long, high, count);
        over = subst (λ (z : Branch). Extends z m) (sym leaf2) a.leads_on.climbs.over;
        justifies = ap just1 leaf2 ∙ chain-justifies mid v m m ks last chain ([], refl) (omega (arith, count, some));
        carries = subst (CarriesWaiting w l) (sym leaf2) (a.carries some);
        leaf_is = refl;
        voted = λ r c. subst (λ (z : Branch). Among z (voted_blocks (chronicle_of end r))) (sym leaf2)
            (elim (cases_eq r l) [
              | inl e ↦ subst (λ (i : ℕ). Among last (voted_blocks (chronicle_of end i))) (sym e) votedl
              | inr k ↦ (their r c k).voted
            ]);
        leads_on = record {
          leader_is = ap (λ (y : Sizes). leader y v) o.goes.made.sizes ∙ a.leads_on.leader_is;
          high = (λ i. (qc_high (o.goes.made.sizes i) (minec i)).block) ∙ a.leads_on.high;
          climbs = subst (λ (s : Identity). Climbs s v m (leaf s (chronicle_of end l)) room (chronicle_of end l))
              (sym (same-self mid end o.goes.made l))
              (subst (λ (z : Chronicle). Climbs (self_of mid l) v m (leaf (self_of mid l) z) room z) (sym minec)
              a.leads_on.climbs);
          waiting = λ q k r c.
              ap (λ (i : Identity). command_verifies i q) (same-self mid end o.goes.made r)
              ∙ a.leads_on.waiting q (subst (λ (z : Chronicle). Among q (pending z)) minec k) r
              (sym (same-correct mid end o.goes.made r) ∙ c);
        };
        climbs = λ r c. subst (λ (z : Branch). Climbs (self_of w r) v m z room (chronicle_of end r)) (sym leaf2)
            (elim (cases_eq r l) [
              | inl e ↦ subst (λ (i : ℕ). Climbs (self_of w i) v m last room (chronicle_of end i)) (sym e)
                  (subst (λ (z : Chronicle). Climbs (self_of w l) v m last room z) (sym minec)
                  (subst (λ (s : Identity). Climbs s v m last room (chronicle_of mid l)) selfm a.leads_on.climbs))
              | inr k ↦ subst (λ (s : Identity). Climbs s v m last room (chronicle_of end r))
                  (same-self w mid a.goes.made r) (their r c k).climbs
            ]);
        session = goes.session;
      } in
      subst (λ (z : World). HasBurst w z l v n room m) (sym ends) (record {
        voted_for = voted;
        goes = goes;
        still = λ r c. subst (λ (h : ℕ). IsStill w.sizes m h (chronicle_of w r) (chronicle_of end r)) (sym long)
            (elim (cases_eq r l) [
              | inl e ↦ subst (λ (i : ℕ). IsStill w.sizes m (length last) (chronicle_of w i)
                  (chronicle_of end i)) (sym e)
                  (subst (λ (z : Chronicle). IsStill w.sizes m (length last) (chronicle_of w l) z) (sym minec) a.still)
              | inr k ↦
                  let cm = same-correct w mid a.goes.made r ∙ c in
                  let there = Among-kept (λ (i : ℕ). not (i == l)) (correct_replicas mid) r (correct-listed mid r cm)
                  (ap not (ne_eqb r l k)) in
                  subst (λ (z : Replica). IsStill w.sizes m (length last) z.chronicle (chronicle_of end r))
                  (a.others r k)
                  (subst (λ (s : Sizes). IsStill s m (length last) (chronicle_of mid r) (chronicle_of end r))
                  a.goes.made.sizes (o.still r there))
            ]);
      })

pub bursts-voted : BurstsAreVotedFor
bursts-voted l v n room m sizes is_faulty ring hs w met e may =
    let start : World = new_world sizes is_faulty ring in
    let on = on-way-from sizes is_faulty ring hs (burst n l w) w met e in
    (burst-voted sizes start (hs ++ burst n l w) w [] l v n room m
    (subst (IsOnWay sizes start (hs ++ burst n l w) w) (sym (append-nil (burst n l w))) on) may).voted_for
