-- A branch is brought to all, block after block, and each to one replica after the other.
use Rattle.std.proofs.Common.{ℕ, suc, ◌≡◌, ◌<◌, ◌≤◌, ◌+◌, ◌⊎◌, not, Bool, true, false, cond, List, [], ◌∷◌}
use Rattle.std.proofs.Common.{◌++◌, map, length, refl, sym, ap, subst, ◌∙◌, arith, inl, inr, Option, Some, None}
use Rattle.std.proofs.Common.{true≢false}
use Rattle.std.specs.Prelude.{is_some}
use Rattle.std.specs.List.{list_any}
use Rattle.std.proofs.lemmas.Bool.{cases_Bool, cases_eq, cases_lt, cond-true, not-true}
use Rattle.std.proofs.lemmas.List.{append-nil, append_assoc, nil_from_length}
use Rattle.ids.specs.Sizes.{Sizes, replicas}
use Rattle.definitions.specs.Bytes.{Bytes}
use Rattle.definitions.specs.Lists.{Among, AreDistinct, count_below}
use Rattle.definitions.specs.Branches.{Block, Branch, Extends, branch_eq}
use Rattle.definitions.specs.Checks.{Identity}
use Rattle.definitions.specs.Chronicles.{Chronicle, tree, window, horizon, executed}
use Rattle.definitions.specs.Digests.{digest_of, AllKnown}
use Rattle.definitions.specs.Frames.{Core}
use Rattle.definitions.specs.States.{find_block, is_known}
use Rattle.definitions.specs.Worlds.{World, Happening, new_world, is_correct, self_of}
use Rattle.definitions.specs.Runs.{after}
use Rattle.definitions.proofs.Branches.{extends-cases, length-extends}
use Rattle.definitions.proofs.Counts.{count-mono}
use Rattle.definitions.proofs.Horizons.{window-tree, window-genesis, window-cases, horizon-low}
use Rattle.definitions.proofs.Chronicles.{tree-parent}
use Rattle.definitions.proofs.Lists.{Among-filter, Among-kept}
use Rattle.definitions.proofs.Sound.{found-standing}
use Rattle.definitions.proofs.Trees.{found-itself}
use Rattle.agreement.proofs.Certified.{any-among, among-any}
use Rattle.recovery.specs.Correct.{OfCorrect, AllGoOn, ShareKeys, chronicle_of, correct_replicas, correct_with}
use Rattle.recovery.specs.Healing.{Phase, in_turn, fetch_block, fetch_for_all, fetch_all, lacking, lowest_first}
use Rattle.recovery.specs.Fetching.{OnlyAsked, HasPlace, IsInReach, CanGet, MayBring}
use Rattle.recovery.specs.Fetching.{HasReached, BranchesAreBrought}
use Rattle.recovery.proofs.Asked.{asked-none, asked-trans}
use Rattle.recovery.proofs.Bursts.{distinct-correct, distinct-kept}
use Rattle.recovery.proofs.Correct.{among-correct, correct-listed}
use Rattle.recovery.proofs.Fetched.{fetched, window-told, place-told}
use Rattle.recovery.proofs.Vain.{fetched-vainly}
use Rattle.recovery.proofs.Gained.{Gains, asked-gains, gains-both, asked-first, asked-last, took-gains}
use Rattle.recovery.proofs.Gained.{gains-only, gains-up, least}
use Rattle.recovery.proofs.Ways.{IsOnWay, KnownAt, on-way-from, on-way, way-past, turn-on, turn-passes, turn-after}
use Rattle.recovery.proofs.Ways.{turns-none}
use Rattle.recovery.proofs.Wells.{IsReached, sound-of, known-of, one-branch}
use Rattle.recovery.proofs.Worlds.{IsMadeAs, made-after, keys-in, same-correct, same-self, Passes}
use Rattle.recovery.proofs.Worlds.{passes-none, passes-append, after-none, after-append}

-- ---- who has a block

-- no fewer have it where each keeps it
pub with-more : (w v : World) (x : Branch) → IsMadeAs w v
    → OfCorrect w (λ r. Among x (window (chronicle_of w r)) → Among x (window (chronicle_of v r)))
    → correct_with w window x ≤ correct_with v window x
with-more w v x made kept =
    subst (λ (n : ℕ). correct_with w window x
    ≤ count_below n (λ r. cond (is_correct v r) (list_any (branch_eq x) (window (chronicle_of v r))) false))
    (ap replicas (sym made.sizes))
    (count-mono (replicas w.sizes) _ _ (λ r l t.
    let c = both (is_correct w r) _ t in
    cond-true (is_correct v r) _ false (same-correct w v made r ∙ c.0)
    ∙ among-any x (window (chronicle_of v r)) (kept r c.0 (any-among x (window (chronicle_of w r)) c.1))))
  where
    both : (t y : Bool) → cond t y false ≡ true → (t ≡ true) × (y ≡ true)
    both true y e = (refl, e)
    both false y e = absurd (true≢false (sym e))

module _ (Known : Core → Type 0) (w : World) (g : IsReached Known w) (x : Branch) (known : AllKnown Known x) where
  -- who lacks a block by its digest lacks it
  lacks-it : (r : ℕ) → is_correct w r ≡ true → not (is_known (digest_of x) (chronicle_of w r)) ≡ true
      → Among x (window (chronicle_of w r)) → ⊥
  unfolding is_known find_block
  lacks-it r c n m =
      let there = found-itself _ (window (chronicle_of w r)) (sound-of Known w g r c).is_tree x m in
      true≢false (sym (ap is_some there) ∙ not-true _ n)

  -- and who doesn't has it
  has-it : (r : ℕ) → is_correct w r ≡ true → is_known (digest_of x) (chronicle_of w r) ≡ true
      → Among x (window (chronicle_of w r))
  unfolding is_known
  has-it r c k = by (find_block (digest_of x) (chronicle_of w r)) refl k
    where
      by : (o : Option Branch) → find_block (digest_of x) (chronicle_of w r) ≡ o → is_some o ≡ true
          → Among x (window (chronicle_of w r))
      by None e k = absurd (true≢false (sym k))
      by (Some y) e k =
          let f = found-standing (digest_of x) (chronicle_of w r) y e in
          let ky = known-of Known w g r c y (window-tree (chronicle_of w r) y f.0) in
          subst (λ (z : Branch). Among z (window (chronicle_of w r))) (one-branch Known w g y x ky known f.1) f.0

-- ---- one block to several

module _ (sizes : Sizes) (start : World) (all : List Happening) (b : Block) (parent : Branch) where
  abbrev x : Branch
  x = b ∷ parent

  abbrev fetches : List ℕ → List Phase
  fetches us = map (fetch_block (digest_of x)) us

  -- each of these lacks the block; it has a place for it where that is in its reach
  record MayAll (w : World) (us : List ℕ) : Type 0 where
    keys : ShareKeys w
    goes : AllGoOn w
    known : AllKnown (KnownAt sizes start all) x
    branch : b.justify < suc (length parent)
    correct : (u : ℕ) → Among u us → is_correct w u ≡ true
    lacks : (u : ℕ) → Among u us → Among x (window (chronicle_of w u)) → ⊥
    place : (u : ℕ) → Among u us → IsInReach (chronicle_of w u) x
        → HasPlace (chronicle_of w u) b parent × (horizon (chronicle_of w u) ≤ length parent)
        × (w.sizes.faults < correct_with w window x)

  -- it got the block, or it is out of its reach
  abbrev IsGot : Identity → Chronicle → Chronicle → Type 0
  IsGot self before now =
      (Gains self (length parent) x before now × Among x (window now) × (horizon before ≤ length parent))
      ⊎ (OnlyAsked self before now × (IsInReach before x → ⊥))

  record FetchedEach (w last : World) (us : List ℕ) : Type 0 where
    going_on : AllGoOn last
    session : last.session ≡ w.session
    got : OfCorrect w (λ r. Among r us → IsGot (self_of w r) (chronicle_of w r) (chronicle_of last r))
    rest : OfCorrect w (λ r. (Among r us → ⊥) → OnlyAsked (self_of w r) (chronicle_of w r) (chronicle_of last r))

  -- what one fetch leaves
  record FetchedOne (w mid : World) (u : ℕ) : Type 0 where
    ran : Passes w (fetch_block (digest_of x) u w)
    going_on : AllGoOn mid
    own : IsGot (self_of w u) (chronicle_of w u) (chronicle_of mid u)
    others : OfCorrect w (λ r. (r ≡ u → ⊥) → OnlyAsked (self_of w r) (chronicle_of w r) (chronicle_of mid r))
    session : mid.session ≡ w.session

  one-fetched : (w : World) (rest : List Happening) (u : ℕ)
      → IsOnWay sizes start all w (fetch_block (digest_of x) u w ++ rest) → (us : List ℕ) → Among u us
      → MayAll w us → FetchedOne w (after w (fetch_block (digest_of x) u w)) u
  one-fetched w rest u on us m may =
      elim (cases_lt (length x + 2) (horizon (chronicle_of w u))) [
        | inl l ↦ (
            let br = may.branch in
            let one = fetched-vainly sizes start all w u b parent rest on may.keys may.goes (may.correct u m) may.known
            (may.lacks u m) (omega (arith, l, br)) in
            record {
              ran = one.ran;
              going_on = one.going_on;
              own = inr (one.only u (may.correct u m), λ k. absurd (omega (arith, k, l)));
              others = λ r c n. one.only r c;
              session = one.session;
            })
        | inr k ↦ (
            let p = may.place u m (omega (arith, k)) in
            let one = fetched sizes start all w u b parent rest on (record {
              keys = may.keys;
              goes = may.goes;
              correct = may.correct u m;
              place = p.0;
              lacks = may.lacks u m;
              many = p.2;
            }) in
            record {
              ran = one.ran;
              going_on = one.going_on;
              own = inl (
                took-gains (self_of w u) b parent (chronicle_of w u)
                    (chronicle_of (after w (fetch_block (digest_of x) u w)) u) p.1 one.own,
                one.stands,
                p.1,
              );
              others = one.others;
              session = one.session;
            })
      ]

  -- a world after one fetch
  may-rest : (w mid : World) (u : ℕ) (us : List ℕ) → IsMadeAs w mid → AreDistinct (u ∷ us) → MayAll w (u ∷ us)
      → FetchedOne w mid u → MayAll mid us
  may-rest w mid u us made d may one = record {
    keys = keys-in w mid made may.keys;
    goes = one.going_on;
    known = may.known;
    branch = may.branch;
    correct = λ r m. same-correct w mid made r ∙ may.correct r (inr m);
    lacks = λ r m n. may.lacks r (inr m) (subst (λ (l : List Branch). Among x l)
        (window-told (chronicle_of w r) (chronicle_of mid r) (asked r m).0.taken (asked r m).0.forgotten) n);
    place = λ r m k.
        let f = (asked r m).0.forgotten in
        let p = may.place r (inr m) (omega (arith, k, f)) in
        let above = p.1 in
        let more = with-more w mid x made (λ i c n. kept i c n) in
        let many = p.2 in
        let s = ap (λ (z : Sizes). z.faults) made.sizes in (
          place-told (self_of w r) (chronicle_of w r) (chronicle_of mid r) b parent (asked r m) p.0,
          omega (arith, above, f),
          omega (arith, more, many, s),
        );
  }
    where
      asked : (r : ℕ) → Among r us → OnlyAsked (self_of w r) (chronicle_of w r) (chronicle_of mid r)
      asked r m = one.others r (may.correct r (inr m)) (λ e. d.0 (subst (λ (i : ℕ). Among i us) e m))

      stays : (r : ℕ) → OnlyAsked (self_of w r) (chronicle_of w r) (chronicle_of mid r)
          → Among x (window (chronicle_of w r)) → Among x (window (chronicle_of mid r))
      stays r o m = subst (λ (l : List Branch). Among x l)
          (sym (window-told (chronicle_of w r) (chronicle_of mid r) o.0.taken o.0.forgotten)) m

      kept : (r : ℕ) → is_correct w r ≡ true → Among x (window (chronicle_of w r))
          → Among x (window (chronicle_of mid r))
      kept r c m = elim (cases_eq r u) [
        | inl e ↦ subst (λ (i : ℕ). Among x (window (chronicle_of w i)) → Among x (window (chronicle_of mid i))) (sym e)
            (λ k. elim one.own [ inl h ↦ h.0.kept x k | inr h ↦ stays u h.0 k ]) m
        | inr n ↦ stays r (one.others r c n) m
      ]

  -- being asked before or after leaves what was got
  got-last : (self : Identity) (a c d : Chronicle) → IsGot self a c → OnlyAsked self c d → IsGot self a d
  got-last self a c d (inl h) o = inl (
    asked-last self (length parent) x a c d (omega arith) h.0 o,
    subst (λ (l : List Branch). Among x l) (sym (window-told c d o.0.taken o.0.forgotten)) h.1,
    h.2,
  )
  got-last self a c d (inr h) o = inr (asked-trans self a c d h.0 o, h.1)

  got-first : (self : Identity) (a c d : Chronicle) → OnlyAsked self a c → IsGot self c d → IsGot self a d
  got-first self a c d o (inl h) =
      let f = o.0.forgotten in
      let above = h.2 in
      inl (asked-first self b parent a c d o h.0, h.1, omega (arith, f, above))
  got-first self a c d o (inr h) =
      let f = o.0.forgotten in inr (asked-trans self a c d o h.0, λ k. h.1 (omega (arith, k, f)))

  fetched-each : (us : List ℕ) (w : World) (rest : List Happening)
      → IsOnWay sizes start all w (in_turn (fetches us) w ++ rest) → AreDistinct us → MayAll w us
      → Passes w (in_turn (fetches us) w) × FetchedEach w (after w (in_turn (fetches us) w)) us
  fetched-each [] w rest on d may = (
    (turns-none w).0,
    subst (λ (z : World). FetchedEach w z []) (sym (turns-none w).1) (record {
      going_on = may.goes;
      session = refl;
      got = λ r c m. absurd m;
      rest = λ r c m. asked-none (self_of w r) (chronicle_of w r);
    }),
  )
  fetched-each (u ∷ us) w rest on d may =
      let here : Phase = fetch_block (digest_of x) u in
      let mid : World = after w (here w) in
      let on0 = turn-on sizes start all here (fetches us) w rest on in
      let one = one-fetched w _ u on0 (u ∷ us) (inl refl) may in
      let made = made-after w (here w) in
      let onm = way-past sizes start all (here w) _ w on0 one.ran in
      let more = fetched-each us mid rest onm d.1 (may-rest w mid u us made d may one) in
      let end : World = after mid (in_turn (fetches us) mid) in
      let m = more.1 in
      let inw : (r : ℕ) → is_correct w r ≡ true → is_correct mid r ≡ true = λ r c. same-correct w mid made r ∙ c in
      let later : (r : ℕ) → is_correct w r ≡ true → (Among r us → ⊥)
      → OnlyAsked (self_of w r) (chronicle_of mid r) (chronicle_of end r) =
      λ r c n. subst (λ (s : Identity). OnlyAsked s (chronicle_of mid r) (chronicle_of end r))
      (same-self w mid made r) (m.rest r (inw r c) n) in (
        turn-passes here (fetches us) w one.ran more.0,
        subst (λ (z : World). FetchedEach w z (u ∷ us)) (sym (turn-after here (fetches us) w)) (record {
          going_on = m.going_on;
          session = m.session ∙ one.session;
          got = λ r c n. elim n [
            | inl e ↦ subst (λ (i : ℕ). IsGot (self_of w i) (chronicle_of w i) (chronicle_of end i)) (sym e)
                (got-last (self_of w u) (chronicle_of w u) (chronicle_of mid u) (chronicle_of end u) one.own
                (later u (may.correct u (inl refl)) d.0))
            | inr k ↦ got-first (self_of w r) (chronicle_of w r) (chronicle_of mid r) (chronicle_of end r)
                (one.others r c (λ e. d.0 (subst (λ (i : ℕ). Among i us) e k)))
                (subst (λ (s : Identity). IsGot s (chronicle_of mid r) (chronicle_of end r)) (same-self w mid made r)
                (m.got r (inw r c) k))
          ];
          rest = λ r c n. asked-trans (self_of w r) (chronicle_of w r) (chronicle_of mid r) (chronicle_of end r)
              (one.others r c (λ e. n (inl e))) (later r c (λ k. n (inr k)));
        }),
      )

-- ---- a whole branch

fetch-append : (xs ys : List Branch) (w : World)
    → fetch_all (xs ++ ys) w ≡ fetch_all xs w ++ fetch_all ys (after w (fetch_all xs w))
unfolding fetch_all fetch_for_all in_turn after
fetch-append [] ys w = refl
fetch-append (x ∷ xs) ys w =
    let here : List Happening = in_turn (map (fetch_block (digest_of x)) (lacking (digest_of x) w)) w in
    let mid : World = after w here in
    ap (λ (l : List Happening). here ++ l)
    (fetch-append xs ys mid
    ∙ ap (λ (z : World). fetch_all xs mid ++ fetch_all ys z) (sym (after-append w here (fetch_all xs mid))))
    ∙ sym (append_assoc here (fetch_all xs mid) (fetch_all ys (after w (here ++ fetch_all xs mid))))

-- the events of a branch are those of its parent, and then those of its last block
fetch-last : (b : Block) (parent : Branch) (w : World)
    → fetch_all (lowest_first (b ∷ parent)) w
    ≡ fetch_all (lowest_first parent) w
    ++ in_turn (map (fetch_block (digest_of (b ∷ parent)))
    (lacking (digest_of (b ∷ parent)) (after w (fetch_all (lowest_first parent) w))))
    (after w (fetch_all (lowest_first parent) w))
unfolding lowest_first fetch_all fetch_for_all in_turn
fetch-last b parent w =
    fetch-append (lowest_first parent) ((b ∷ parent) ∷ []) w
    ∙ ap (λ (l : List Happening). fetch_all (lowest_first parent) w ++ l) (append-nil _)

pub fetch-none : (w : World) → fetch_all (lowest_first []) w ≡ []
unfolding lowest_first fetch_all in_turn
fetch-none w = refl

-- what bringing a branch leaves
pub record BroughtAll (w last : World) (x : Branch) : Type 0 where
  pub going_on : AllGoOn last
  pub session : last.session ≡ w.session
  pub stands : OfCorrect w (λ r. HasReached (chronicle_of last r) x)
  pub gained : OfCorrect w (λ r. Gains (self_of w r) (least (length (executed (chronicle_of w r))) x) x
      (chronicle_of w r) (chronicle_of last r))
  pub had : OfCorrect w (λ r. HasReached (chronicle_of w r) x
      → OnlyAsked (self_of w r) (chronicle_of w r) (chronicle_of last r))

longer-extends : (b : Block) (parent y : Branch) → Extends parent y → Extends (b ∷ parent) y
longer-extends b parent y e = (b ∷ e.0, ap (λ (l : Branch). b ∷ l) e.1)

-- the parent's branch may be brought
may-parent : (b : Block) (parent : Branch) (w : World)
    → ((r : ℕ) → is_correct w r ≡ true → Among (b ∷ parent) (tree (chronicle_of w r))
    → Among parent (tree (chronicle_of w r))) → MayBring w (b ∷ parent) → MayBring w parent
may-parent b parent w below may = record {
  keys = may.keys;
  goes = may.goes;
  branch = may.branch.1;
  taken = (may.taken.0, may.taken.1, below may.taken.0 may.taken.1 may.taken.2);
  each = λ r c x y e k. may.each r c x y (longer-extends b parent (x ∷ y) e) k;
  trees = λ r c. (let t = may.trees r c in omega (arith, t));
  low = (let l = may.low in omega (arith, l));
}

module _ (sizes : Sizes) (start : World) (all : List Happening) where
  -- the replicas that lack the last block may fetch it
  may-last : (b : Block) (parent : Branch) (w mid : World) → MayBring w (b ∷ parent) → IsMadeAs w mid
      → BroughtAll w mid parent → IsReached (KnownAt sizes start all) mid
      → AllKnown (KnownAt sizes start all) (b ∷ parent)
      → MayAll sizes start all b parent mid (lacking (digest_of (b ∷ parent)) mid)
  may-last b parent w mid may made h g known = record {
    keys = keys-in w mid made may.keys;
    goes = h.going_on;
    known = known;
    branch = may.branch.0;
    correct = λ u m. correct u m;
    lacks = λ u m. lacks u m;
    place = λ u m k.
        let c = was u m in
        let gain = h.gained u c in
        let f = gain.forgotten in
        let get : CanGet w (chronicle_of w u) b parent =
        (elim (may.each u c b parent ([], refl) (omega (arith, k, f))) [
          | inl n ↦ absurd (lacks u m (gain.kept (b ∷ parent) n))
          | inr n ↦ n
        ]) in
        let above = get.above in
        let low = horizon-low (chronicle_of w u) in
        let reach = get.reach in
        let many = get.many in
        let more = with-more w mid (b ∷ parent) made (λ r i n. (h.gained r i).kept (b ∷ parent) n) in
        let s = ap (λ (z : Sizes). z.faults) made.sizes in
        let t = may.trees u c in
        let l = gain.longer in
        let high = gain.above (suc (length parent)) (omega arith) in
        let few = get.uncrowded in (
          record {
            stands = h.stands u c parent ([], refl) (omega (arith, above, low, f));
            below = may.branch.0;
            reach = omega (arith, f, reach);
            room = omega (arith, t, l, above);
            uncrowded = omega (arith, high, few);
            low = may.low;
          },
          omega (arith, above, low, f),
          omega (arith, more, many, s),
        );
  }
    where
      correct : (u : ℕ) → Among u (lacking (digest_of (b ∷ parent)) mid) → is_correct mid u ≡ true
      correct u m = among-correct mid (replicas mid.sizes) u
          (Among-filter (λ r. not (is_known (digest_of (b ∷ parent)) (chronicle_of mid r)))
          (correct_replicas mid) u m).0

      was : (u : ℕ) → Among u (lacking (digest_of (b ∷ parent)) mid) → is_correct w u ≡ true
      was u m = sym (same-correct w mid made u) ∙ correct u m

      lacks : (u : ℕ) → Among u (lacking (digest_of (b ∷ parent)) mid)
          → Among (b ∷ parent) (window (chronicle_of mid u)) → ⊥
      lacks u m = lacks-it (KnownAt sizes start all) mid g (b ∷ parent) known u (correct u m)
          (Among-filter (λ r. not (is_known (digest_of (b ∷ parent)) (chronicle_of mid r)))
          (correct_replicas mid) u m).1

  -- the last block comes after the others
  brought-last : (b : Block) (parent : Branch) (w mid last : World) → MayBring w (b ∷ parent) → IsMadeAs w mid
      → BroughtAll w mid parent → IsReached (KnownAt sizes start all) mid
      → AllKnown (KnownAt sizes start all) (b ∷ parent)
      → FetchedEach sizes start all b parent mid last (lacking (digest_of (b ∷ parent)) mid)
      → BroughtAll w last (b ∷ parent)
  brought-last b parent w mid last may made h g known f = record {
    going_on = f.going_on;
    session = f.session ∙ h.session;
    stands = λ r c y e k.
        let now = (gain r c).forgotten in
        elim (extends-cases b parent y e) [
          | inl i ↦
              let long = ap (λ (z : Branch). length z) i in
              subst (λ (z : Branch). Among z (window (chronicle_of last r))) (sym i)
              (own r c (omega (arith, k, now, long)))
          | inr i ↦ (gain r c).kept y (h.stands r c y i (omega (arith, k, now)))
        ];
    gained = λ r c. gained r c;
    had = λ r c k.
        let one = h.had r c (λ y e i. k y (longer-extends b parent y e) i) in
        let before = one.0.forgotten in
        let more : OnlyAsked (self_of w r) (chronicle_of mid r) (chronicle_of last r) =
        (elim (cases_Bool (is_known d (chronicle_of mid r))) [
          | inl t ↦ asked r c (knows r c t)
          | inr n ↦ (elim (got r c (listed r c (ap not n))) [
            | inr o ↦ o.0
            | inl o ↦ (elim (cases_lt (length (b ∷ parent) + 2) (horizon (chronicle_of w r))) [
              | inr low ↦ absurd (lacks-it (KnownAt sizes start all) mid g (b ∷ parent) known r (inm r c) (ap not n)
                  ((h.gained r c).kept (b ∷ parent) (k (b ∷ parent) ([], refl) (omega (arith, low)))))
              | inl high ↦
                  let now = o.0.forgotten in
                  let there = window-cases (chronicle_of last r) (b ∷ parent) o.1 in
                  absurd (elim there [
                    | inl z ↦ (let q = ap (λ (y : Branch). length y) z in omega (arith, q))
                    | inr z ↦ (let q = z.1 in omega (arith, q, now, before, high))
                  ])
            ])
          ])
        ]) in
        asked-trans (self_of w r) (chronicle_of w r) (chronicle_of mid r) (chronicle_of last r) one more;
  }
    where
      d : Bytes
      d = digest_of (b ∷ parent)

      inm : (r : ℕ) → is_correct w r ≡ true → is_correct mid r ≡ true
      inm r c = same-correct w mid made r ∙ c

      test : (r : ℕ) → Among r (lacking d mid) → not (is_known d (chronicle_of mid r)) ≡ true
      test r m = (Among-filter (λ (i : ℕ). not (is_known d (chronicle_of mid i))) (correct_replicas mid) r m).1

      asked : (r : ℕ) → is_correct w r ≡ true → (Among r (lacking d mid) → ⊥)
          → OnlyAsked (self_of w r) (chronicle_of mid r) (chronicle_of last r)
      asked r c n = subst (λ (s : Identity). OnlyAsked s (chronicle_of mid r) (chronicle_of last r))
          (same-self w mid made r) (f.rest r (inm r c) n)

      got : (r : ℕ) → is_correct w r ≡ true → Among r (lacking d mid)
          → IsGot sizes start all b parent (self_of w r) (chronicle_of mid r) (chronicle_of last r)
      got r c m = subst (λ (s : Identity). IsGot sizes start all b parent s (chronicle_of mid r) (chronicle_of last r))
          (same-self w mid made r) (f.got r (inm r c) m)

      listed : (r : ℕ) → is_correct w r ≡ true → not (is_known d (chronicle_of mid r)) ≡ true → Among r (lacking d mid)
      listed r c t = Among-kept (λ (i : ℕ). not (is_known d (chronicle_of mid i))) (correct_replicas mid) r
          (correct-listed mid r (inm r c)) t

      knows : (r : ℕ) → is_correct w r ≡ true → is_known d (chronicle_of mid r) ≡ true → Among r (lacking d mid) → ⊥
      knows r c t m = true≢false (sym (test r m) ∙ ap not t)

      gain : (r : ℕ) → is_correct w r ≡ true
          → Gains (self_of w r) (length parent) (b ∷ parent) (chronicle_of mid r) (chronicle_of last r)
      gain r c = elim (cases_Bool (is_known d (chronicle_of mid r))) [
        | inl t ↦ asked-gains (self_of w r) (length parent) (b ∷ parent) (chronicle_of mid r) (chronicle_of last r)
            (omega arith) (asked r c (knows r c t))
        | inr n ↦ (elim (got r c (listed r c (ap not n))) [
          | inl o ↦ o.0
          | inr o ↦ asked-gains (self_of w r) (length parent) (b ∷ parent) (chronicle_of mid r) (chronicle_of last r)
              (omega arith) o.0
        ])
      ]

      -- up to what it had executed a replica gains nothing
      below : (r : ℕ) → is_correct w r ≡ true → length parent < length (executed (chronicle_of w r))
          → OnlyAsked (self_of w r) (chronicle_of mid r) (chronicle_of last r)
      below r c low = elim (cases_Bool (is_known d (chronicle_of mid r))) [
        | inl t ↦ asked r c (knows r c t)
        | inr n ↦ (elim (got r c (listed r c (ap not n))) [
          | inl o ↦
              let now = (h.gained r c).forgotten in
              let reach = o.2 in
              absurd (elim (may.each r c b parent ([], refl) (omega (arith, now, reach))) [
                | inl there ↦ lacks-it (KnownAt sizes start all) mid g (b ∷ parent) known r (inm r c) (ap not n)
                    ((h.gained r c).kept (b ∷ parent) there)
                | inr get ↦ (let above = get.above in omega (arith, above, low))
              ])
          | inr o ↦ o.0
        ])
      ]

      gained : (r : ℕ) → is_correct w r ≡ true
          → Gains (self_of w r) (least (length (executed (chronicle_of w r))) (b ∷ parent)) (b ∷ parent)
          (chronicle_of w r) (chronicle_of last r)
      gained r c =
          let z : ℕ = length (executed (chronicle_of w r)) in
          elim (cases_lt (length parent) z) [
            | inl low ↦ subst (λ (k : ℕ). Gains (self_of w r) k (b ∷ parent) (chronicle_of w r) (chronicle_of last r))
                (let e : length (b ∷ parent) ≡ least z (b ∷ parent) = omega (arith, low) in e)
                (gains-up (self_of w r) b parent (chronicle_of w r) (chronicle_of last r)
                (asked-last (self_of w r) (length parent) parent (chronicle_of w r) (chronicle_of mid r)
                (chronicle_of last r) (omega arith)
                (subst (λ (k : ℕ). Gains (self_of w r) k parent (chronicle_of w r) (chronicle_of mid r))
                (let e : least z parent ≡ length parent = omega (arith, low) in e) (h.gained r c)) (below r c low)))
            | inr high ↦ subst (λ (k : ℕ). Gains (self_of w r) k (b ∷ parent) (chronicle_of w r) (chronicle_of last r))
                (let e : least z parent ≡ least z (b ∷ parent) = omega (arith, high) in e)
                (gains-both (self_of w r) (least z parent) parent (b ∷ parent) (chronicle_of w r) (chronicle_of mid r)
                (chronicle_of last r) (omega arith) (b ∷ [], refl) (λ y e. longer-extends b parent y e) (h.gained r c)
                (gain r c))
          ]

      own : (r : ℕ) → is_correct w r ≡ true → IsInReach (chronicle_of mid r) (b ∷ parent)
          → Among (b ∷ parent) (window (chronicle_of last r))
      own r c k = elim (cases_Bool (is_known d (chronicle_of mid r))) [
        | inl t ↦ (gain r c).kept (b ∷ parent)
            (has-it (KnownAt sizes start all) mid g (b ∷ parent) known r (inm r c) t)
        | inr n ↦ (elim (got r c (listed r c (ap not n))) [ inl o ↦ o.1 | inr o ↦ absurd (o.1 k) ])
      ]

  pub branch-brought : (x : Branch) (w : World) (rest : List Happening)
      → IsOnWay sizes start all w (fetch_all (lowest_first x) w ++ rest) → MayBring w x
      → Passes w (fetch_all (lowest_first x) w) × BroughtAll w (after w (fetch_all (lowest_first x) w)) x
  branch-brought [] w rest on may =
      let none = fetch-none w in (
        subst (Passes w) (sym none) (passes-none w),
        subst (λ (z : World). BroughtAll w z []) (sym (ap (after w) none ∙ after-none w)) (record {
          going_on = may.goes;
          session = refl;
          stands = λ r c y e k. subst (λ (z : Branch). Among z (window (chronicle_of w r))) (sym (nothing-below y e))
              (window-genesis (chronicle_of w r));
          gained = λ r c. asked-gains (self_of w r) (least (length (executed (chronicle_of w r))) []) []
              (chronicle_of w r) (chronicle_of w r) (omega arith) (asked-none (self_of w r) (chronicle_of w r));
          had = λ r c k. asked-none (self_of w r) (chronicle_of w r);
        }),
      )
    where
      nothing-below : (y : Branch) → Extends [] y → y ≡ []
      nothing-below y e = (let l = length-extends [] y e in nil_from_length y (omega (arith, l)))
  branch-brought (b ∷ parent) w rest on may =
      let d : Bytes = digest_of (b ∷ parent) in
      let front : List Happening = fetch_all (lowest_first parent) w in
      let mid : World = after w front in
      let us : List ℕ = lacking d mid in
      let back : List Happening = in_turn (map (fetch_block d) us) mid in
      let is = fetch-last b parent w in
      let on0 = subst (IsOnWay sizes start all w) (append_assoc front back rest)
      (subst (λ (l : List Happening). IsOnWay sizes start all w (l ++ rest)) is on) in
      let gw = on-way sizes start all w _ on0 in
      let Known : Core → Type 0 = KnownAt sizes start all in
      let one = branch-brought parent w (back ++ rest) on0
      (may-parent b parent w (λ r c m. tree-parent w.sizes (chronicle_of w r)
      (sound-of Known w gw r c).lawful b parent m)
      may) in
      let made = made-after w front in
      let onm = way-past sizes start all front (back ++ rest) w on0 one.0 in
      let g = on-way sizes start all mid (back ++ rest) onm in
      let known = known-of Known w gw may.taken.0 may.taken.1 (b ∷ parent) may.taken.2 in
      let two = fetched-each sizes start all b parent us mid rest onm
      (distinct-kept (λ r. not (is_known d (chronicle_of mid r))) (correct_replicas mid)
      (distinct-correct mid (replicas mid.sizes)))
      (may-last b parent w mid may made one.1 g known) in (
        subst (Passes w) (sym is) (passes-append w front back one.0 two.0),
        subst (λ (z : World). BroughtAll w z (b ∷ parent)) (sym (ap (after w) is ∙ after-append w front back))
            (brought-last b parent w mid (after mid back) may made one.1 g known two.1),
      )

pub branches-brought : BranchesAreBrought
branches-brought x sizes is_faulty ring hs w met e may =
    let start : World = new_world sizes is_faulty ring in
    let events : List Happening = fetch_all (lowest_first x) w in
    let on = on-way-from sizes is_faulty ring hs events w met e in
    let r = branch-brought sizes start (hs ++ events) x w []
    (subst (IsOnWay sizes start (hs ++ events) w) (sym (append-nil events)) on) may in
    let made = made-after w events in
    let last : World = after w events in
    let b = r.1 in
    record {
      ran = r.0;
      going_on = b.going_on;
      stands = λ i c. b.stands i (sym (same-correct w last made i) ∙ c);
      gained = λ i c. gains-only (self_of w i) x (chronicle_of w i) (chronicle_of last i) (b.gained i c);
      had = b.had;
      session = b.session;
    }
