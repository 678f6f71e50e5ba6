-- What all have when their leader is told to lead from its lock, where genesis doesn't justify that.
use Rattle.ids.specs.declared.limits.TheConstants.{HEIGHT_LIMIT}
use Rattle.std.specs.Prelude.{count_by}
use Rattle.std.proofs.Common.{ℕ, suc, ◌≡◌, ◌<◌, ◌≤◌, ◌+◌, ◌-◌, ◌⊎◌, ◌==◌, true, List, [], length, sym, ap, subst, ◌∙◌}
use Rattle.std.proofs.Common.{arith, inl, inr, refl, map, ◌∷◌}
use Rattle.std.proofs.lemmas.Bool.{cases_eq, cases_lt}
use Rattle.ids.specs.Sizes.{Sizes, leader}
use Rattle.definitions.specs.Lists.{Among}
use Rattle.definitions.specs.Branches.{Block, Branch, just1, just2, justify_height, Extends}
use Rattle.definitions.specs.Agreement.{IsLawfulFamily, MayBeCertified}
use Rattle.definitions.specs.Checks.{Identity}
use Rattle.definitions.specs.Chronicles.{Admitted, Chronicle, taken_blocks, window, horizon, vheight}
use Rattle.definitions.specs.Chronicles.{executed, tree, stored_blocks, stored_block}
use Rattle.definitions.specs.Frames.{Core}
use Rattle.definitions.specs.States.{view}
use Rattle.definitions.specs.Worlds.{World, is_correct, self_of}
use Rattle.definitions.proofs.Branches.{just1-extends, just2-is, length-extends, extends-between}
use Rattle.definitions.proofs.Chronicles.{lock-above, lock-cases, tree-taken, tree-extends, executed-decided}
use Rattle.agreement.proofs.Agreement.{certified-extends-decided}
use Rattle.agreement.proofs.Careful.{none-justifies-below}
use Rattle.definitions.specs.Trees.{blocks}
use Rattle.recovery.proofs.Families.{justified-certified}
use Rattle.definitions.proofs.Horizons.{window-all, window-tree, tree-window, horizon-low, executed-locked}
use Rattle.definitions.proofs.Horizons.{executed-window}
use Rattle.linear_law.specs.Law.{correct_family}
use Rattle.recovery.specs.Correct.{OfCorrect, AllGoOn, ShareKeys, chronicle_of, lock_of, correct_replicas}
use Rattle.recovery.specs.Healing.{highest_voted}
use Rattle.recovery.specs.NeverWedged.{healer, ground_of, HasRoom, NobodyPruned, PrunedWell}
use Rattle.recovery.specs.Views.{OnlyViewMoved, CameTo}
use Rattle.recovery.specs.Fetching.{OnlyAsked, IsInReach, CanGet, MayBring}
use Rattle.recovery.specs.Rounds.{Climbs}
use Rattle.recovery.proofs.Brought.{BroughtAll, with-more}
use Rattle.recovery.proofs.Climbing.{stands-justifies}
use Rattle.recovery.proofs.Correct.{correct-listed}
use Rattle.recovery.proofs.Fetched.{window-told, lock-told, executed-told}
use Rattle.recovery.proofs.Grounds.{ground-own, ground-among, ground-cases}
use Rattle.recovery.proofs.Highs.{highest-voted-above}
use Rattle.recovery.proofs.Locks.{healer-highest, locks-one}
use Rattle.recovery.proofs.Rounds.{vheight-told, clear-own}
use Rattle.recovery.proofs.Wells.{IsReached, sound-of, family-of}
use Rattle.recovery.proofs.Worlds.{IsMadeAs, keys-in, same-correct, made-both}

-- how many blocks are made above m, where none was voted for above this height
abbrev pub room_above : ℕ → Branch → ℕ
room_above top m = suc (top - length m) + 3

-- All go on in this view, and may climb from the leader's lock; none voted above this height.
pub record IsStaged (w : World) (l v top : ℕ) (m : Branch) : Type 0 where
  pub keys : ShareKeys w
  pub goes : AllGoOn w
  pub correct : is_correct w l ≡ true
  pub leader_is : leader w.sizes v ≡ l
  pub lock_is : lock_of w l ≡ m
  pub climbs : OfCorrect w (λ r. Climbs (self_of w r) v m m (room_above top m) (chronicle_of w r))
  pub low : OfCorrect w (λ r. vheight (chronicle_of w r) ≤ top)
  pub limit : length m + room_above top m < HEIGHT_LIMIT

-- ---- who came into the view

-- a window is the same where the view alone moved
pub moved-window : (self : Identity) (c d : Chronicle) → OnlyViewMoved self c d → window d ≡ window c
moved-window self c d h = window-told c d h.taken h.forgotten

-- a tree is told by what was taken
tree-told : (c d : Chronicle) → taken_blocks d ≡ taken_blocks c → tree d ≡ tree c
unfolding tree stored_blocks
tree-told c d t = ap (λ (l : List Admitted). blocks (map stored_block l)) t

module _ (Known : Core → Type 0) (w : World) (g : IsReached Known w) (kept : NobodyPruned w ⊎ PrunedWell w)
    (room : HasRoom w) where
  abbrev fam : IsLawfulFamily (correct_family w)
  fam = family-of Known w g

  abbrev led_by : ℕ
  led_by = healer w

  abbrev m : Branch
  m = lock_of w led_by

  abbrev b : Branch
  b = ground_of w

  -- the lock is no higher than what justifies it
  lock-low : length m ≤ length b
  lock-low =
      let k = length-extends b (just1 b) (just1-extends b) in
      let e = ap (λ (x : Branch). length x) (ground-own w fam).0 in
      omega (arith, k, e)

  -- nobody pruned above it, nor executed above it
  horizons-low : (r : ℕ) → is_correct w r ≡ true
      → (horizon (chronicle_of w r) ≤ length (executed (chronicle_of w r)))
      × (length (executed (chronicle_of w r)) ≤ length m)
  horizons-low r c =
      let a = horizon-low (chronicle_of w r) in
      let e = executed-locked (chronicle_of w r) in
      let h = (healer-highest w fam).1 r c in
      (a, omega (arith, e, h))

  -- what justifies it is certified
  ground-certified : 0 < length b → MayBeCertified (correct_family w) b
  ground-certified up = elim (ground-cases (chronicle_of w led_by)) [
    | inl r ↦ subst (MayBeCertified (correct_family w)) (sym r.3)
        (justified-certified (correct_family w) fam led_by (healer-highest w fam).0 r.0 r.1
        (let n = ap (λ (x : Branch). length x) r.3 in omega (arith, up, n)))
    | inr z ↦ absurd (let n = ap (λ (x : Branch). length x) z.0 in omega (arith, up, n))
  ]

  -- a replica can get what it lacks of it, in its reach
  can-get : (r : ℕ) → is_correct w r ≡ true → (x : Block) (y : Branch) → Extends b (x ∷ y)
      → IsInReach (chronicle_of w r) (x ∷ y)
      → Among (x ∷ y) (window (chronicle_of w r)) ⊎ CanGet w (chronicle_of w r) x y
  unfolding justify_height
  can-get r c x y e k =
      let ch : Chronicle = chronicle_of w r in
      let low = horizons-low r c in
      let long = length-extends b (x ∷ y) e in
      let certified = ground-certified (omega (arith, long)) in
      elim (cases_lt (length (executed ch)) (length (x ∷ y))) [
        | inl above ↦ (elim kept [
          | inl nobody ↦
              let z = nobody r c in
              let few = room.heights r c (suc (length y)) above in
              inr (record {
                above = omega (arith, above);
                reach = omega (arith, z);
                uncrowded = omega (arith, few);
                many = ground-among w fam window
                    (λ i ci n q. subst (λ (xs : List Branch). Among n xs) (sym (window-all _ (nobody i ci))) q)
                    (x ∷ y) e;
              })
          | inr pruned ↦ (elim (pruned.held r c (x ∷ y) e k) [
            | inl there ↦ inl there
            | inr many ↦
                let h = low.0 in
                let j = none-justifies-below (correct_family w) b (executed ch) (x ∷ y) fam pruned.careful certified
                (r, c, executed-decided ch) e above in
                let few = room.heights r c (suc (length y)) above in
                inr (record {
                  above = omega (arith, above);
                  reach = omega (arith, h, j);
                  uncrowded = omega (arith, few);
                  many = many;
                })
          ])
        ])
        | inr below ↦ (
            let law = (sound-of Known w g r c).lawful in
            let under = low.1 in
            let lo = lock-low in
            let over = certified-extends-decided (correct_family w) b (executed ch) fam certified
            (r, c, executed-decided ch) (omega (arith, under, lo)) in
            let through = extends-between b (executed ch) (x ∷ y) over e (omega (arith, below)) in
            inl (tree-window ch (x ∷ y)
            (tree-extends w.sizes ch law (executed ch) (x ∷ y) (window-tree ch (executed ch)
            (executed-window w.sizes ch law))
            through) k))
      ]

  -- what justifies the lock may be brought to all
  pub may-bring : (v : ℕ) (w1 : World) → ShareKeys w → IsMadeAs w w1 → CameTo v w w1 → MayBring w1 b
  may-bring v w1 keys made came = record {
    keys = keys-in w w1 made keys;
    goes = came.going_on;
    branch = (sound-of Known w g led_by (healer-highest w fam).0).is_tree.branches b
        (tree-window (chronicle_of w led_by) b (ground-own w fam).1
        (let a = horizons-low led_by (healer-highest w fam).0 in let lo = lock-low in let p = a.0 in let q = a.1 in
        omega (arith, p, q, lo)));
    taken = (
      led_by,
      same-correct w w1 made led_by ∙ (healer-highest w fam).0,
      subst (λ (l : List Branch). Among b l)
          (sym (tree-told (chronicle_of w led_by) (chronicle_of w1 led_by)
          (came.rest led_by (same-correct w w1 made led_by ∙ (healer-highest w fam).0)).taken)) (ground-own w fam).1,
    );
    each = λ r c x y e k.
        let h = (came.rest r c).forgotten in
        elim (can-get r (was r c) x y e (omega (arith, k, h))) [
          | inl there ↦ inl (subst (λ (l : List Branch). Among (x ∷ y) l) (sym (same r c)) there)
          | inr get ↦
              let above = get.above in
              let reach = get.reach in
              let many = get.many in
              let more = with-more w w1 (x ∷ y) made (λ i ci n. subst (λ (l : List Branch). Among (x ∷ y) l)
              (sym (same i (same-correct w w1 made i ∙ ci))) n) in
              let s = ap (λ (z : Sizes). z.faults) made.sizes in
              let few = get.uncrowded in
              let done = done-as r c in
              let n = ap (λ (l : List Branch). count_by (λ z. length z == suc (length y)) l) (same r c) in
              inr (record {
                above = omega (arith, above, done);
                reach = omega (arith, reach, h);
                uncrowded = omega (arith, few, n);
                many = omega (arith, more, many, s);
              })
        ];
    trees = λ r c.
        let t = room.trees r (was r c) in
        let done = done-as r c in
        let n = ap (λ (l : List Branch). length l) (same r c) in
        omega (arith, t, n, done);
    low = (sound-of Known w g led_by (healer-highest w fam).0).heights b (ground-own w fam).1;
  }
    where
      was : (r : ℕ) → is_correct w1 r ≡ true → is_correct w r ≡ true
      was r c = sym (same-correct w w1 made r) ∙ c

      same : (r : ℕ) → is_correct w1 r ≡ true → window (chronicle_of w1 r) ≡ window (chronicle_of w r)
      same r c = moved-window (self_of w r) (chronicle_of w r) (chronicle_of w1 r) (came.rest r c)

      done-as : (r : ℕ) → is_correct w1 r ≡ true
          → length (executed (chronicle_of w1 r)) ≡ length (executed (chronicle_of w r))
      done-as r c = ap (λ (x : Branch). length x) (executed-told (chronicle_of w r) (chronicle_of w1 r)
          (came.rest r c).taken)

  -- ---- what was brought

  module _ (v : ℕ) (w1 w3 : World) (g3 : IsReached Known w3) (made1 : IsMadeAs w w1) (made3 : IsMadeAs w1 w3)
      (came : CameTo v w w1) (brought : BroughtAll w1 w3 b) where
    in1 : (r : ℕ) → is_correct w r ≡ true → is_correct w1 r ≡ true
    in1 r c = same-correct w w1 made1 r ∙ c

    -- the leader had all of it that is in its reach
    leader-asked : OnlyAsked (self_of w1 led_by) (chronicle_of w1 led_by) (chronicle_of w3 led_by)
    leader-asked =
        let c = (healer-highest w fam).0 in
        let rest = came.rest led_by (in1 led_by c) in
        let h = rest.forgotten in
        brought.had led_by (in1 led_by c) (λ y e k. subst (λ (l : List Branch). Among y l)
        (sym (moved-window (self_of w led_by) (chronicle_of w led_by) (chronicle_of w1 led_by) rest))
        (tree-window (chronicle_of w led_by) y
        (tree-extends w.sizes (chronicle_of w led_by) (sound-of Known w g led_by c).lawful b y (ground-own w fam).1 e)
        (omega (arith, k, h))))

    leader-lock : lock_of w3 led_by ≡ m
    leader-lock =
        let c = (healer-highest w fam).0 in
        lock-told (chronicle_of w1 led_by) (chronicle_of w3 led_by) leader-asked.0.taken
        ∙ lock-told (chronicle_of w led_by) (chronicle_of w1 led_by) (came.rest led_by (in1 led_by c)).taken

    -- no lock rose above it
    locks-low : (r : ℕ) → is_correct w r ≡ true → length (lock_of w3 r) ≤ length m
    locks-low r c = elim (lock-cases (chronicle_of w3 r)) [
      | inl e ↦ (let n = ap (λ (x : Branch). length x) e in omega (arith, n))
      | inr (a, k, e) ↦
          let n = ap (λ (x : Branch). length x) e in
          (elim ((brought.gained r (in1 r c)).taken a k) [
            | inl old ↦
                let high = lock-above (chronicle_of w r) a
                (subst (λ (l : List Admitted). Among a l) (came.rest r (in1 r c)).taken old) in
                let top = (healer-highest w fam).1 r c in
                omega (arith, n, high, top)
            | inr over ↦ (
                let h = (healer-highest w fam).0 in
                let there = tree-extends w.sizes (chronicle_of w led_by) (sound-of Known w g led_by h).lawful b a.branch
                (ground-own w fam).1 over in
                elim (cases_lt 0 (length a.branch)) [
                  | inl up ↦
                      let t = tree-taken (chronicle_of w led_by) a.branch there up in
                      let high = lock-above (chronicle_of w led_by) t.0 t.1 in
                      let i = ap (λ (x : Branch). length (just2 x)) t.2 in
                      omega (arith, n, high, i)
                  | inr z ↦
                      let k1 = length-extends a.branch (just1 a.branch) (just1-extends a.branch) in
                      let k2 = length-extends (just1 a.branch) (just1 (just1 a.branch)) (just1-extends
                      (just1 a.branch)) in
                      let i = ap (λ (x : Branch). length x) (just2-is a.branch) in
                      omega (arith, n, k1, k2, i, z)
                ])
          ])
    ]

    locks-safe : (r : ℕ) → is_correct w3 r ≡ true → is_correct w r ≡ true
        → (lock_of w3 r ≡ m) ⊎ (length (lock_of w3 r) < length m)
    locks-safe r c3 c = elim (cases_eq (length (lock_of w3 r)) (length m)) [
      | inl e ↦ inl (locks-one w3 (family-of Known w3 g3) r led_by c3
          (same-correct w w3 (made-both w w1 w3 made1 made3) led_by ∙ (healer-highest w fam).0)
          (let n = ap (λ (x : Branch). length x) leader-lock in omega (arith, e, n)) ∙ leader-lock)
      | inr d ↦ inr (let k = locks-low r c in omega (arith, k, d))
    ]

    pub staged : ShareKeys w → leader w.sizes v ≡ led_by → 0 < length b
        → IsStaged w3 led_by v (highest_voted w (correct_replicas w)) m
    staged keys leads up =
        let made = made-both w w1 w3 made1 made3 in
        let was : (r : ℕ) → is_correct w3 r ≡ true → is_correct w r ≡ true = λ r c. sym
        (same-correct w w3 made r) ∙ c in
        let over = (ground-own w fam).0 in
        let below = subst (Extends b) over (just1-extends b) in
        record {
          keys = keys-in w w3 made keys;
          goes = brought.going_on;
          correct = same-correct w w3 made led_by ∙ (healer-highest w fam).0;
          leader_is = ap (λ (s : Sizes). leader s v) made.sizes ∙ leads;
          lock_is = leader-lock;
          climbs = λ r c.
              let cw = was r c in
              let gain = brought.gained r (in1 r cw) in
              let h = gain.forgotten in
              let h1 = (came.rest r (in1 r cw)).forgotten in
              let a = horizons-low r cw in
              let a0 = a.0 in
              let a1 = a.1 in
              let lo = lock-low in
              let same = moved-window (self_of w r) (chronicle_of w r) (chronicle_of w1 r) (came.rest r (in1 r cw)) in
              let long1 = ap (λ (l : List Branch). length l) same in
              let more = gain.longer in
              let done = ap (λ (x : Branch). length x) (executed-told (chronicle_of w r) (chronicle_of w1 r)
              (came.rest r (in1 r cw)).taken) in
              let trees = room.trees r cw in
              record {
                in_view = ap (λ (s : Sizes). view s (chronicle_of w3 r)) made3.sizes
                    ∙ (gain.in_view ∙ came.views r (in1 r cw));
                stands = brought.stands r (in1 r cw) m below (omega (arith, h, h1, a0, a1));
                over = ([], refl);
                ground = inl (stands-justifies m b (chronicle_of w3 r)
                    (brought.stands r (in1 r cw) b ([], refl) (omega (arith, h, h1, a0, a1, lo))) up over);
                reach = omega (arith, h, h1, a0, a1);
                safe = locks-safe r c cw;
                clear = clear-own m _;
                trees = omega (arith, trees, long1, more, done);
                heights = λ n k.
                    let one = gain.heights n in
                    let same1 = ap (λ (l : List Branch). count_by (λ y. length y == n) l) same in
                    let few = room.heights r cw n (omega (arith, k, a1)) in
                    omega (arith, one, same1, few);
              };
          low = λ r c.
              let cw = was r c in
              let v1 = vheight-told (chronicle_of w3 r) (chronicle_of w1 r) (brought.gained r (in1 r cw)).voted in
              let v0 = vheight-told (chronicle_of w1 r) (chronicle_of w r) (came.rest r (in1 r cw)).voted in
              let top = highest-voted-above w (correct_replicas w) r (correct-listed w r cw) in
              omega (arith, v1, v0, top);
          limit = (let l = room.low in omega (arith, l));
        }
