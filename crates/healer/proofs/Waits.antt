-- All correct replicas come into one view.
use Rattle.ids.specs.Sizes.{Sizes, replicas}
use Rattle.std.specs.Prelude.{slice_index_or, max}
use Rattle.std.proofs.Common.{ℕ, zero, suc, ◌+◌, ◌-◌, ◌<◌, ◌≤◌, ◌≡◌, List, [], ◌∷◌, ◌++◌, map, length, take, sym, ap}
use Rattle.std.proofs.Common.{◌∙◌, refl, arith}
use Rattle.std.proofs.lemmas.List.{map-append}
use Rattle.definitions.specs.Replicas.{MemorySupply.ample}
use Rattle.definitions.specs.Worlds.{World, Event, Event.timeout}
use Rattle.recovery.specs.Correct.{amply, view_of, correct_replicas}
use Rattle.recovery.specs.Healing.{highest_view, next_led, view_to_come, timeouts, waits_until, come_to, in_turn}
use Rattle.world_schedule.specs.declared.event.Event.TheVariants.{Timeout}
use Rattle.healer.specs.Courses.{Course, Takes, Goes, GoesWhere, ToldWhere, HasReplica, AreCorrect}
use Rattle.healer.proofs.Highest.{highest-next, highest-all}
use Rattle.healer.proofs.Members.{still-correct, item-is-replica}
use Rattle.healer.proofs.Phases.{goes-none, goes-as, goes-event}
use Rattle.healer.proofs.Turns.{where-as, where-told, each-first, each-next, each-all}

-- ---- the highest view

pub view-none : (w : World) → highest_view w [] ≡ 0
unfolding highest_view
view-none w = refl

view-first : (w : World) (r : ℕ) (rs : List ℕ) → highest_view w (r ∷ rs) ≡ max (view_of w r) (highest_view w rs)
unfolding highest_view
view-first w r rs = refl

pub view-next : (w : World) (rs : List ℕ) (i d r high view : ℕ) → i < length rs → r ≡ slice_index_or rs i d
    → high ≡ highest_view w (take i rs) → view ≡ view_of w r → max high view ≡ highest_view w (take (i + 1) rs)
view-next w = highest-next (view_of w) (highest_view w) (view-none w) (view-first w)

pub view-all : (w : World) (rs : List ℕ) (i high : ℕ) → length rs ≤ i → high ≡ highest_view w (take i rs)
    → high ≡ highest_view w rs
view-all w = highest-all (view_of w) (highest_view w) (view-none w) (view-first w)

-- the view that is to come, by what these replicas are
pub to-come : (w : World) (rs : List ℕ) (l high above v : ℕ) (s : Sizes) → AreCorrect rs w → s ≡ w.sizes
    → high ≡ highest_view w rs → above ≡ high + 1 → v ≡ next_led (replicas s) l above → v ≡ view_to_come l w
to-come w rs l high above v s own size h a e =
    let k : above ≡ suc (highest_view w (correct_replicas w)) =
    (let m = h ∙ ap (λ (ps : List ℕ). highest_view w ps) own in omega (arith, m, a)) in
    e ∙ (ap (λ (z : Sizes). next_led (replicas z) l above) size ∙ ap (λ (n : ℕ). next_led (replicas w.sizes) l n) k)

-- ---- timeouts

timeouts-more : (r n : ℕ) → timeouts r n ++ timeout r ∷ [] ≡ timeouts r (suc n)
unfolding timeouts
timeouts-more r zero = refl
timeouts-more r (suc n) = ap (λ (es : List Event). timeout r ∷ es) (timeouts-more r n)

timeouts-none : (r n : ℕ) → n ≡ 0 → amply (timeouts r n) ≡ []
unfolding timeouts
timeouts-none r n e = ap (λ (k : ℕ). amply (timeouts r k)) e

pub waits-first : (r from : ℕ) (a : Course) → Goes a (λ w. amply (timeouts r (from - from))) a
waits-first r from a =
    goes-as a a (λ w. []) (λ w. amply (timeouts r (from - from)))
    (λ w. sym (timeouts-none r (from - from) (omega arith))) (goes-none a)

pub waits-next : (r from passed : ℕ) (a b c : Course) → from ≤ passed
    → Goes a (λ w. amply (timeouts r (passed - from))) b → Takes b (Timeout r) c
    → Goes a (λ w. amply (timeouts r ((passed + 1) - from))) c
waits-next r from passed a b c l g t =
    goes-as a c (λ w. amply (timeouts r (passed - from)) ++ (timeout r, ample) ∷ [])
    (λ w. amply (timeouts r ((passed + 1) - from))) (λ w. one)
    (goes-event a b c (λ w. amply (timeouts r (passed - from))) (Timeout r) (timeout r) g t (λ reads. refl))
  where
    more : suc (passed - from) ≡ (passed + 1) - from
    more = omega (arith, l)

    one : amply (timeouts r (passed - from)) ++ (timeout r, ample) ∷ [] ≡ amply (timeouts r ((passed + 1) - from))
    one =
        sym (map-append (λ e. (e, ample)) (timeouts r (passed - from)) (timeout r ∷ []))
        ∙ (ap (λ (es : List Event). amply es) (timeouts-more r (passed - from))
        ∙ ap (λ (k : ℕ). amply (timeouts r k)) more)

-- so many as it takes from its view to this one
pub waits-until : (r from passed to : ℕ) (a b : Course) → from ≤ passed → to ≤ passed → (from ≤ to → passed ≤ to)
    → Goes a (λ w. amply (timeouts r (passed - from))) b
    → (to < from → passed ≡ from)
    → Goes a (λ w. amply (timeouts r (to - from))) b
waits-until r from passed to a b l m up g down =
    goes-as a b (λ w. amply (timeouts r (passed - from))) (λ w. amply (timeouts r (to - from)))
    (λ w. ap (λ (k : ℕ). amply (timeouts r k)) same) g
  where
    same : passed - from ≡ to - from
    same = grind (arith, l, m, up, down)

pub waits-as : (r from to p q : ℕ) (a b : Course) → p ≡ from → q ≡ to → Goes a (λ w. amply (timeouts r (q - p))) b
    → Goes a (λ w. amply (timeouts r (to - from))) b
waits-as r from to p q a b e f g =
    goes-as a b (λ w. amply (timeouts r (q - p))) (λ w. amply (timeouts r (to - from)))
    (λ w. ap (λ (n : ℕ). amply (timeouts r n)) (let k : q - p ≡ to - from = omega (arith, e, f) in k)) g

-- from the view that it is in
pub waits-from : (r from to : ℕ) (a b : Course) → ToldWhere a (HasReplica r) (λ w. from ≡ view_of w r)
    → Goes a (λ w. amply (timeouts r (to - from))) b → GoesWhere a (HasReplica r) (waits_until to r) b
waits-from r from to a b is g =
    where-told a b (HasReplica r) (λ w. amply (timeouts r (to - from))) (waits_until to r)
    (λ hs w t h. ap (λ (n : ℕ). amply (timeouts r (to - n))) (is hs w t h)) (λ hs w t h. g hs w t)

-- ---- one after the other

pub comes-first : (v : ℕ) (rs : List ℕ) (a : Course)
    → GoesWhere a (AreCorrect rs) (in_turn (map (waits_until v) (take 0 rs))) a
comes-first v rs a = each-first ℕ (AreCorrect rs) (still-correct rs) (waits_until v) rs a

pub comes-next : (v : ℕ) (rs : List ℕ) (i d r : ℕ) (a b c : Course) → i < length rs → r ≡ slice_index_or rs i d
    → GoesWhere a (AreCorrect rs) (in_turn (map (waits_until v) (take i rs))) b
    → GoesWhere b (HasReplica r) (waits_until v r) c
    → GoesWhere a (AreCorrect rs) (in_turn (map (waits_until v) (take (i + 1) rs))) c
comes-next v rs i d r a b c l at g h =
    each-next ℕ (AreCorrect rs) (still-correct rs) (waits_until v) rs i d r a b c (HasReplica r) l at
    (λ w x. item-is-replica rs i d r w l at x) g h

pub comes-all : (v : ℕ) (rs : List ℕ) (i : ℕ) (a b : Course) → length rs ≤ i
    → GoesWhere a (AreCorrect rs) (in_turn (map (waits_until v) (take i rs))) b
    → GoesWhere a (AreCorrect rs) (come_to v) b
unfolding come_to
comes-all v rs i a b l g =
    where-as a b (AreCorrect rs) (in_turn (map (waits_until v) rs)) (come_to v)
    (λ w x. ap (λ (ps : List ℕ). in_turn (map (waits_until v) ps) w) x)
    (each-all ℕ (AreCorrect rs) (still-correct rs) (waits_until v) rs i a b l g)
