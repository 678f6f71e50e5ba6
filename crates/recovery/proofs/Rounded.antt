-- Rounds, one after the other, decide.
use Rattle.ids.specs.declared.limits.TheConstants.{HEIGHT_LIMIT}
use Rattle.std.proofs.Common.{ℕ, suc, ◌≡◌, ◌<◌, ◌+◌, true, List, [], ◌∷◌, ◌++◌, length, sym, ap, subst, ◌∙◌}
use Rattle.std.proofs.Common.{arith, inl, inr, Ok}
use Rattle.std.proofs.lemmas.List.{append-nil, length-append, nil_from_length}
use Rattle.ids.specs.Sizes.{Sizes}
use Rattle.definitions.specs.Lists.{Among}
use Rattle.definitions.specs.Branches.{Branch, IsBranch, Extends, just1, justify_height}
use Rattle.definitions.specs.Chronicles.{vheight, window, executed}
use Rattle.definitions.specs.Worlds.{World, Happening, new_world, is_correct}
use Rattle.definitions.specs.Runs.{after}
use Rattle.definitions.proofs.Branches.{extends-cases, justify_height-just1}
use Rattle.definitions.proofs.Chronicles.{tree-taken}
use Rattle.definitions.proofs.Horizons.{window-tree}
use Rattle.recovery.specs.Correct.{OfCorrect, chronicle_of}
use Rattle.recovery.specs.Healing.{round, rounds}
use Rattle.recovery.specs.Rounds.{IsNext, MayBurst, MayClimb, IsCertifiedByAll, HaveDecided, RoundsDecide}
use Rattle.recovery.proofs.Decided.{third-executes}
use Rattle.recovery.proofs.Rounds.{round-certified}
use Rattle.recovery.proofs.Ways.{IsOnWay, KnownAt, on-way-from, on-way, way-past, turn-on, turn-passes}
use Rattle.recovery.proofs.Ways.{turn-after, turns-none}
use Rattle.recovery.proofs.Wells.{IsReached, sound-of, family-of}

-- a block one higher than what it goes through and justifies stands on it
next-is : (m x : Branch) → IsBranch x → length x ≡ suc (length m) → Extends x m → just1 x ≡ m → IsNext m x
unfolding justify_height
next-is m [] br l over j = absurd (omega (arith, l))
next-is m (b ∷ y) br l over j =
    (b, ap (λ (z : Branch). b ∷ z) below, sym (justify_height-just1 (b ∷ y) br) ∙ ap (λ (z : Branch). length z) j)
  where
    below : y ≡ m
    below = elim (extends-cases b y m over) [
      | inl e ↦ absurd (let n = ap (λ (z : Branch). length z) e in omega (arith, n, l))
      | inr (added, e) ↦
          let n = ap (λ (z : Branch). length z) e in
          let k = length-append added m in
          sym (ap (λ (z : Branch). z ++ m) (sym (nil_from_length added (omega (arith, n, k, l)))) ∙ e)
    ]

-- where all may climb, and none voted higher, one block more is a burst
one-more : (w : World) (l v room : ℕ) (x : Branch) → MayClimb w l v (suc room) x
    → OfCorrect w (λ r. vheight (chronicle_of w r) < suc (length x)) → suc (length x) < HEIGHT_LIMIT
    → MayBurst w l v 1 room x
one-more w l v room x may low top = record {
  climbing = subst (λ (n : ℕ). MayClimb w l v n x) (let e : suc room ≡ 1 + room = omega arith in e) may;
  low = λ r c. let h = low r c in omega (arith, h);
  some = omega arith;
  top = omega (arith, top);
}

module _ (sizes : Sizes) (start : World) (all : List Happening) where
  -- what a round of one block leaves, and the next one needs
  record IsMore (w last : World) (l v room : ℕ) (x y : Branch) : Type 0 where
    certified : IsCertifiedByAll w last l v 1 room x y
    next : IsNext x y

  one-round : (w : World) (rest : List Happening) (l v room : ℕ) (x : Branch)
      → IsOnWay sizes start all w (round 1 l w ++ rest) → MayClimb w l v (suc room) x
      → OfCorrect w (λ r. vheight (chronicle_of w r) < suc (length x)) → suc (length x) < HEIGHT_LIMIT
      → (y : Branch) × IsMore w (after w (round 1 l w)) l v room x y
  one-round w rest l v room x on may low top =
      let r = round-certified sizes start all w rest l v 1 room x on (one-more w l v room x may low top) in
      let c = r.1 in
      let last : World = after w (round 1 l w) in
      let climbing = c.climbing in
      let g = on-way sizes start all last rest (way-past sizes start all (round 1 l w) rest w on c.ran) in
      let br = (sound-of (KnownAt sizes start all) last g l climbing.correct).is_tree.branches r.0
      (climbing.climbs l climbing.correct).stands in
      let h = c.height in
      (r.0, record { certified = c; next = next-is x r.0 br (omega (arith, h)) c.over c.justifies })

  -- who knows the last of three more blocks executed the first
  known-executes : (w : World) → IsReached (KnownAt sizes start all) w → (r : ℕ) → is_correct w r ≡ true
      → (x y z last : Branch) → IsNext x y → IsNext y z → IsNext z last → 0 < length last
      → Among last (window (chronicle_of w r)) → Extends (executed (chronicle_of w r)) x
  known-executes w g r c x y z last n1 n2 n3 up there =
      let ch = chronicle_of w r in
      let a = tree-taken ch last (window-tree ch last there) up in
      third-executes w (family-of (KnownAt sizes start all) w g) r c x y z a.0 n1 n2 (subst (IsNext z) (sym a.2) n3) a.1

  pub rounds-decided : (w : World) (rest : List Happening) (l v n room : ℕ) (m : Branch)
      → IsOnWay sizes start all w (rounds n l w ++ rest) → MayBurst w l v n (3 + room) m
      → length m + n + 3 < HEIGHT_LIMIT → (x : Branch) × HaveDecided w (after w (rounds n l w)) l n m x
  unfolding rounds
  rounds-decided w rest l v n room m on may top =
      let on0 = turn-on sizes start all (round n l) (round 1 l ∷ round 1 l ∷ round 1 l ∷ []) w rest on in
      let r0 = round-certified sizes start all w _ l v n (3 + room) m on0 may in
      let c0 = r0.1 in
      let w1 : World = after w (round n l w) in
      let on1 = turn-on sizes start all (round 1 l) (round 1 l ∷ round 1 l ∷ []) w1 rest
      (way-past sizes start all (round n l w) _ w on0 c0.ran) in
      let h0 = c0.height in
      let r1 = one-round w1 _ l v (2 + room) r0.0 on1
      (subst (λ (k : ℕ). MayClimb w1 l v k r0.0) (let e : 3 + room ≡ suc (2 + room) = omega arith in e) c0.climbing)
      c0.low (omega (arith, h0, top)) in
      let c1 = r1.1.certified in
      let w2 : World = after w1 (round 1 l w1) in
      let on2 = turn-on sizes start all (round 1 l) (round 1 l ∷ []) w2 rest
      (way-past sizes start all (round 1 l w1) _ w1 on1 c1.ran) in
      let h1 = c1.height in
      let r2 = one-round w2 _ l v (1 + room) r1.0 on2
      (subst (λ (k : ℕ). MayClimb w2 l v k r1.0) (let e : 2 + room ≡ suc (1 + room) = omega arith in e) c1.climbing)
      c1.low (omega (arith, h0, h1, top)) in
      let c2 = r2.1.certified in
      let w3 : World = after w2 (round 1 l w2) in
      let on3 = turn-on sizes start all (round 1 l) [] w3 rest
      (way-past sizes start all (round 1 l w2) _ w2 on2 c2.ran) in
      let h2 = c2.height in
      let r3 = one-round w3 _ l v room r2.0 on3
      (subst (λ (k : ℕ). MayClimb w3 l v k r2.0) (let e : 1 + room ≡ suc room = omega arith in e) c2.climbing)
      c2.low (omega (arith, h0, h1, h2, top)) in
      let c3 = r3.1.certified in
      let end : World = after w3 (round 1 l w3) in
      let h3 = c3.height in
      let ge = on-way sizes start all end _ (way-past sizes start all (round 1 l w3) _ w3 on3 c3.ran) in
      let none = turns-none end in
      let four = turn-passes (round 1 l) [] w3 c3.ran none.0 in
      let three = turn-passes (round 1 l) (round 1 l ∷ []) w2 c2.ran four in
      let two = turn-passes (round 1 l) (round 1 l ∷ round 1 l ∷ []) w1 c1.ran three in
      let ran = turn-passes (round n l) (round 1 l ∷ round 1 l ∷ round 1 l ∷ []) w c0.ran two in
      let ends : after w (rounds n l w) ≡ end =
      turn-after (round n l) (round 1 l ∷ round 1 l ∷ round 1 l ∷ []) w
      ∙ (turn-after (round 1 l) (round 1 l ∷ round 1 l ∷ []) w1
      ∙ (turn-after (round 1 l) (round 1 l ∷ []) w2 ∙ (turn-after (round 1 l) [] w3 ∙ none.1))) in (
        r0.0,
        subst (λ (z : World). HaveDecided w z l n m r0.0) (sym ends) (record {
          ran = ran ∙ ap (λ (z : World). Ok z) ends;
          going_on = c3.climbing.goes;
          height = c0.height;
          over = c0.over;
          carries = c0.carries;
          decided = λ r c. known-executes end ge r c r0.0 r1.0 r2.0 r3.0 r1.1.next r2.1.next r3.1.next
              (omega (arith, h3)) (c3.climbing.climbs r c).stands;
          session = c3.session ∙ (c2.session ∙ (c1.session ∙ c0.session));
        }),
      )

pub rounds-decide : RoundsDecide
rounds-decide l v n room m sizes is_faulty ring hs w met e may top =
    let start : World = new_world sizes is_faulty ring in
    let on = on-way-from sizes is_faulty ring hs (rounds n l w) w met e in
    rounds-decided sizes start (hs ++ rounds n l w) w [] l v n room m
    (subst (IsOnWay sizes start (hs ++ rounds n l w) w) (sym (append-nil (rounds n l w))) on) may top
