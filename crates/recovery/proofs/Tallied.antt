-- All votes come to all.
use Rattle.std.proofs.Common.{ℕ, zero, suc, ◌≡◌, ◌<◌, ◌≤◌, ◌==◌, ◌&&◌, not, Bool, true, false, cond, List, [], ◌∷◌}
use Rattle.std.proofs.Common.{◌++◌, map, length, refl, sym, ap, subst, ◌∙◌, arith, inl, inr, true≢false}
use Rattle.std.specs.List.{list_any}
use Rattle.std.proofs.lemmas.Bool.{cases_eq, cases_lt, and_from, and_parts, or_cases}
use Rattle.std.proofs.lemmas.Bool.{eqb-true, eq-eqb, ne_eqb, not-true}
use Rattle.std.proofs.lemmas.List.{append_assoc, map-append}
use Rattle.ids.specs.Sizes.{Sizes, replicas, quorum}
use Rattle.definitions.specs.Lists.{Among, AreDistinct, count_below}
use Rattle.definitions.specs.Branches.{Branch}
use Rattle.definitions.specs.Checks.{Identity}
use Rattle.definitions.specs.Chronicles.{Chronicle, window}
use Rattle.definitions.specs.Frames.{Vote}
use Rattle.definitions.specs.Replicas.{MemorySupply.ample, Replica, Standing.running}
use Rattle.definitions.specs.States.{votes, qc_high}
use Rattle.definitions.specs.Worlds.{World, Event, Event.relay, Happening, is_correct, self_of}
use Rattle.definitions.specs.Runs.{after}
use Rattle.definitions.proofs.Counts.{found, count-mono}
use Rattle.recovery.specs.Correct.{OfCorrect, ShareKeys, chronicle_of, amply}
use Rattle.recovery.specs.Healing.{comes_to}
use Rattle.recovery.proofs.Counting.{IsCounting, IsCountedFor, counting-first}
use Rattle.recovery.proofs.Offers.{GoesOn, goes-none, goes-both}
use Rattle.recovery.proofs.Voting.{AreVotes, HasVote, votes-later, vote-later, relays-of, votes-to-one}
use Rattle.recovery.proofs.Ways.{IsOnWay, way-past}
use Rattle.recovery.proofs.Worlds.{IsMadeAs, keys-in, same-correct, same-self, Passes, passes-none}
use Rattle.recovery.proofs.Worlds.{passes-append, after-append}

-- ---- how many were counted

-- a test without one number passes one fewer at most
count-without : (n v : ℕ) (p : ℕ → Bool) → count_below n p ≤ suc (count_below n (λ i. p i && not (i == v)))
unfolding count_below
count-without zero v p = omega arith
count-without (suc n) v p = elim (cases_eq n v) [
  | inl e ↦ (
      let rest = count-mono n p (λ i. p i && not (i == v)) (λ i l t. and_from _ _ t
      (ap not (ne_eqb i v (λ f. absurd (omega (arith, e, f, l)))))) in
      by-own (p n) (p n && not (n == v)) (count_below n p) (count_below n (λ i. p i && not (i == v))) rest)
  | inr d ↦ (
      let rest = count-without n v p in
      let same : (p n && not (n == v)) ≡ p n = kept (p n) (not (n == v)) (ap not (ne_eqb n v d)) in
      by-other (p n) (p n && not (n == v)) (count_below n p) (count_below n (λ i. p i && not (i == v))) same rest)
]
  where
    by-own : (a b : Bool) (x y : ℕ) → x ≤ y → cond a (suc x) x ≤ suc (cond b (suc y) y)
    by-own true true x y h = omega (arith, h)
    by-own true false x y h = omega (arith, h)
    by-own false true x y h = omega (arith, h)
    by-own false false x y h = omega (arith, h)

    by-other : (a b : Bool) (x y : ℕ) → b ≡ a → x ≤ suc y → cond a (suc x) x ≤ suc (cond b (suc y) y)
    by-other true true x y e h = omega (arith, h)
    by-other true false x y e h = absurd (true≢false (sym e))
    by-other false true x y e h = absurd (true≢false e)
    by-other false false x y e h = omega (arith, h)

    kept : (a b : Bool) → b ≡ true → (a && b) ≡ a
    kept true b e = e
    kept false b e = refl

-- numbers that all stand in a list are no more than its elements
pub count-named : {A : Type 0} (f : A → ℕ) (n : ℕ) (vs : List A) (p : ℕ → Bool)
    → ((i : ℕ) → p i ≡ true → list_any (λ z. f z == i) vs ≡ true) → count_below n p ≤ length vs
count-named f n [] p h = elim (cases_lt 0 (count_below n p)) [
  | inl l ↦ (let i = found n p l in absurd (true≢false (sym (h i.0 i.1))))
  | inr z ↦ omega (arith, z)
]
count-named f n (v ∷ vs) p h =
    let rest = count-named f n vs (λ i. p i && not (i == f v)) (λ i t.
    let a = and_parts (p i) (not (i == f v)) t in
    elim (or_cases (f v == i) (list_any (λ z. f z == i) vs) (h i a.0)) [
      | inl e ↦ absurd (true≢false (sym (eq-eqb i (f v) (sym (eqb-true (f v) i e))) ∙ not-true _ a.1))
      | inr k ↦ k
    ]) in
    let less = count-without n (f v) p in
    omega (arith, rest, less)

-- where all correct replicas were counted there is a quorum
pub counted-all : (w : World) (x : Branch) (c : Chronicle)
    → quorum w.sizes ≤ count_below (replicas w.sizes) (is_correct w)
    → OfCorrect w (λ r. IsCountedFor w.sizes x r c) → quorum w.sizes ≤ length (votes w.sizes x c)
unfolding IsCountedFor
counted-all w x c enough h = elim (cases_lt (length (votes w.sizes x c)) (quorum w.sizes)) [
  | inr k ↦ k
  | inl l ↦ (
      let n = count-named (λ (z : Vote). z.voter) (replicas w.sizes) (votes w.sizes x c) (is_correct w)
      (λ i t. elim (h i t) [
        | inl a ↦ a
        | inr b ↦ absurd (omega (arith, l, b))
      ]) in omega (arith, enough, n))
]

-- ---- all votes to several

-- a replica to which the votes may come
pub record MayCount (w : World) (x : Branch) (u : ℕ) : Type 0 where
  pub correct : is_correct w u ≡ true
  pub goes : (w.replica u).standing ≡ running
  pub stands : Among x (window (chronicle_of w u))
  pub low : length (qc_high w.sizes (chronicle_of w u)).block < length x
  pub lacks : length (votes w.sizes x (chronicle_of w u)) < quorum w.sizes

may-later : (w mid : World) (x : Branch) (u : ℕ) → IsMadeAs w mid → mid.replica u ≡ w.replica u → MayCount w x u
    → MayCount mid x u
may-later w mid x u made e h = record {
  correct = same-correct w mid made u ∙ h.correct;
  goes = ap (λ (y : Replica). y.standing) e ∙ h.goes;
  stands = subst (λ (y : Replica). Among x (window y.chronicle)) (sym e) h.stands;
  low = subst (λ (s : Sizes). length (qc_high s (chronicle_of mid u)).block < length x) (sym made.sizes)
      (subst (λ (y : Replica). length (qc_high w.sizes y.chronicle).block < length x) (sym e) h.low);
  lacks = subst (λ (s : Sizes). length (votes s x (chronicle_of mid u)) < quorum s) (sym made.sizes)
      (subst (λ (y : Replica). length (votes w.sizes x y.chronicle) < quorum w.sizes) (sym e) h.lacks);
}

-- what all votes leave of one
pub record HasCounted (w : World) (x : Branch) (u : ℕ) (y : Replica) : Type 0 where
  pub going_on : y.standing ≡ running
  pub counting : IsCounting (self_of w u) x (chronicle_of w u) y.chronicle
  pub counted : OfCorrect w (λ r. IsCountedFor w.sizes x r y.chronicle)

pub record CountedEach (w next : World) (x : Branch) (rs : List ℕ) : Type 0 where
  pub goes : GoesOn w next
  pub others_are : (j : ℕ) → (Among j rs → ⊥) → next.replica j ≡ w.replica j
  pub each : (u : ℕ) → Among u rs → HasCounted w x u (next.replica u)

has-later : (w mid : World) (x : Branch) (u : ℕ) (y : Replica) → IsMadeAs w mid → mid.replica u ≡ w.replica u
    → HasCounted mid x u y → HasCounted w x u y
has-later w mid x u y made e h = record {
  going_on = h.going_on;
  counting = subst (λ (s : Identity). IsCounting s x (chronicle_of w u) y.chronicle) (same-self w mid made u)
      (subst (λ (z : Replica). IsCounting (self_of mid u) x z.chronicle y.chronicle) e h.counting);
  counted = λ r c. subst (λ (s : Sizes). IsCountedFor s x r y.chronicle) made.sizes
      (h.counted r (same-correct w mid made r ∙ c));
}

module _ (sizes : Sizes) (start : World) (all : List Happening) (x : Branch) (ks : List ℕ) where
  pub votes-to-all : (rs : List ℕ) (w : World) (rest : List Happening)
      → IsOnWay sizes start all w (amply (comes_to rs ks) ++ rest) → ShareKeys w → AreDistinct rs → AreVotes w ks
      → OfCorrect w (λ r. HasVote w ks r x) → ((u : ℕ) → Among u rs → MayCount w x u)
      → Passes w (amply (comes_to rs ks)) × CountedEach w (after w (amply (comes_to rs ks))) x rs
  unfolding comes_to relays-of after
  votes-to-all [] w rest on keys d are have may = (
    passes-none w,
    record {
      goes = goes-none w;
      others_are = λ j n. refl;
      each = λ u n. absurd n;
    },
  )
  votes-to-all (u ∷ rs) w rest on keys d are have may =
      let here : List Happening = relays-of u ks in
      let later : List Happening = amply (comes_to rs ks) in
      let is : amply (comes_to (u ∷ rs) ks) ≡ here ++ later =
      map-append (λ (e : Event). (e, ample)) (map (λ k. relay k u) ks) (comes_to rs ks) in
      let on0 = subst (IsOnWay sizes start all w) (append_assoc here later rest)
      (subst (λ (z : List Happening). IsOnWay sizes start all w (z ++ rest)) is on) in
      let own = may u (inl refl) in
      let one = votes-to-one sizes start all u x (chronicle_of w u) own.stands ks w (later ++ rest) on0 keys own.correct
      own.goes are (counting-first (self_of w u) x (chronicle_of w u) own.low own.lacks) (λ r c. inr (have r c)) in
      let o = one.1 in
      let mid : World = after w here in
      let onm = way-past sizes start all here (later ++ rest) w on0 one.0 in
      let apart : (j : ℕ) → Among j rs → (j ≡ u → ⊥) = λ j n e. d.0 (subst (λ (i : ℕ). Among i rs) e n) in
      let more = votes-to-all rs mid rest onm (keys-in w mid o.goes.made keys) d.1 (votes-later w mid o.goes ks are)
      (λ r c. vote-later w mid o.goes ks r x (have r (sym (same-correct w mid o.goes.made r) ∙ c)))
      (λ j n. may-later w mid x j o.goes.made (o.others j (apart j n)) (may j (inr n))) in
      let end : World = after mid later in
      let each : (j : ℕ) → Among j (u ∷ rs) → HasCounted w x j (end.replica j) =
      λ j n. elim n [
        | inl e ↦ subst (λ (i : ℕ). HasCounted w x i (end.replica i)) (sym e)
            (subst (λ (y : Replica). HasCounted w x u y) (sym (more.1.others_are u d.0))
            (record { going_on = o.going_on; counting = o.counting; counted = o.counted }))
        | inr k ↦ has-later w mid x j (end.replica j) o.goes.made (o.others j (apart j k)) (more.1.each j k)
      ] in (
        subst (Passes w) (sym is) (passes-append w here later one.0 more.0),
        subst (λ (z : World). CountedEach w z x (u ∷ rs)) (sym (ap (after w) is ∙ after-append w here later)) (record {
          goes = goes-both w mid end o.goes more.1.goes;
          others_are = λ j n. more.1.others_are j (λ k. n (inr k)) ∙ o.others j (λ e. n (inl e));
          each = each;
        }),
      )
