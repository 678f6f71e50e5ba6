-- Phases in turn, where something holds of the world.
use Rattle.std.specs.Prelude.{slice_index_or}
use Rattle.std.proofs.Common.{ℕ, ◌+◌, ◌<◌, ◌≤◌, ◌≡◌, List, [], ◌∷◌, ◌++◌, map, length, take, sym, ap, subst, ◌∙◌, refl}
use Rattle.std.proofs.Common.{append_assoc, Result, Ok, Err, OnOk, IfOk}
use Rattle.std.proofs.lemmas.List.{map-append, take_more, take_all}
use Rattle.ids.specs.declared.fault.Fault.{Fault}
use Rattle.definitions.specs.Runs.{after}
use Rattle.definitions.specs.Worlds.{World, Happening}
use Rattle.recovery.specs.Healing.{Phase, in_turn}
use Rattle.world_schedule.specs.Progress.{StandsAt}
use Rattle.healer.specs.Courses.{Course, Goes, GoesWhere, ToldWhere}
use Rattle.healer.proofs.Courses.{nothing-behind}
use Rattle.healer.proofs.Phases.{after-none, after-append, joined, goes-none}

-- ---- what phases in turn are

turns-none : (w : World) → in_turn [] w ≡ []
unfolding in_turn
turns-none w = refl

turns-first : (p : Phase) (ps : List Phase) (w : World) → in_turn (p ∷ ps) w ≡ p w ++ in_turn ps (after w (p w))
unfolding in_turn
turns-first p ps w = refl

pub turns-one : (p : Phase) (w : World) → in_turn (p ∷ []) w ≡ p w
unfolding in_turn
turns-one p w = nothing-behind (p w)

pub turns-two : (p q : Phase) (w : World) → in_turn (p ∷ q ∷ []) w ≡ p w ++ q (after w (p w))
unfolding in_turn
turns-two p q w = ap (λ (l : List Happening). p w ++ l) (nothing-behind (q (after w (p w))))

-- one more behind them
turns-more : (ps : List Phase) (p : Phase) (w : World)
    → in_turn (ps ++ p ∷ []) w ≡ in_turn ps w ++ p (after w (in_turn ps w))
unfolding in_turn
turns-more [] p w = nothing-behind (p w) ∙ ap p (sym (after-none w))
turns-more (q ∷ ps) p w =
    let v : World = after w (q w) in
    ap (λ (l : List Happening). q w ++ l) (turns-more ps p v)
    ∙ (sym (append_assoc (q w) (in_turn ps v) (p (after v (in_turn ps v))))
    ∙ ap (λ (z : World). (q w ++ in_turn ps v) ++ p z) (sym (after-append w (q w) (in_turn ps v))))

-- ---- how they go

-- from anywhere, so from where P holds
pub where-too : (a b : Course) (P : World → Type 0) (p : Phase) → Goes a p b → GoesWhere a P p b
where-too a b P p g = λ hs w t h. g hs w t

-- the same phase in other words, by what is known where it stands
pub where-told : (a b : Course) (P : World → Type 0) (p q : Phase) → ToldWhere a P (λ w. p w ≡ q w)
    → GoesWhere a P p b → GoesWhere a P q b
where-told a b P p q is g = λ hs w t h.
    subst (λ (l : List Happening). StandsAt b.stand (hs ++ l) (after w l)) (is hs w t h) (g hs w t h)

-- by what holds of worlds
pub where-as : (a b : Course) (P : World → Type 0) (p q : Phase) → ((w : World) → P w → p w ≡ q w)
    → GoesWhere a P p b → GoesWhere a P q b
where-as a b P p q is g = where-told a b P p q (λ hs w t h. is w h) g

-- nothing happened
pub where-none : (a : Course) (P : World → Type 0) (p : Phase) → ((w : World) → p w ≡ []) → GoesWhere a P p a
where-none a P p is =
    where-as a a P (λ w. []) p (λ w h. sym (is w)) (where-too a a P (λ w. []) (goes-none a))

-- P goes on holding of worlds
abbrev pub Lasts : (World → Type 0) → Type 0
Lasts P = (w : World) (hs : List Happening) → P w → P (after w hs)

-- one phase, and another one in the world that it leaves
pub where-both : (a b c : Course) (P Q : World → Type 0) (p q : Phase) → GoesWhere a P p b → GoesWhere b Q q c
    → ((w : World) → P w → Q (after w (p w))) → GoesWhere a P (λ w. p w ++ q (after w (p w))) c
where-both a b c P Q p q g h k = λ hs w t x.
    joined c.stand hs (p w) (q (after w (p w))) w
    (h (hs ++ p w) (after w (p w)) (g hs w t x) (k w x))

-- The second phase is what was wanted in the world that the first one leaves, by what is known of both worlds.
pub two-phases : (a b c : Course) (P Q : World → Type 0) (p q : Phase) (wanted : World → Phase) → GoesWhere a P p b
    → GoesWhere b Q q c
    → ((hs : List Happening) (w : World) → StandsAt a.stand hs w → P w → StandsAt b.stand (hs ++ p w) (after w (p w))
    → Q (after w (p w)) × (q (after w (p w)) ≡ wanted w (after w (p w))))
    → GoesWhere a P (λ w. in_turn (p ∷ wanted w ∷ []) w) c
two-phases a b c P Q p q wanted g h k = λ hs w t x.
    let v : World = after w (p w) in
    let s : StandsAt b.stand (hs ++ p w) v = g hs w t x in
    let e = k hs w t x s in
    subst (λ (l : List Happening). StandsAt c.stand (hs ++ l) (after w l))
    (ap (λ (l : List Happening). p w ++ l) e.1 ∙ sym (turns-two p (wanted w) w))
    (joined c.stand hs (p w) (q v) w (h (hs ++ p w) v s e.0))

-- the first of several
pub turn-first : (a b c : Course) (P Q : World → Type 0) (p : Phase) (ps : List Phase) → GoesWhere a P p b
    → GoesWhere b Q (in_turn ps) c → ((w : World) → P w → Q (after w (p w))) → GoesWhere a P (in_turn (p ∷ ps)) c
turn-first a b c P Q p ps g h k =
    where-as a c P (λ w. p w ++ in_turn ps (after w (p w))) (in_turn (p ∷ ps)) (λ w x. sym (turns-first p ps w))
    (where-both a b c P Q p (in_turn ps) g h k)

pub turn-last : (a b : Course) (P : World → Type 0) (p : Phase) → GoesWhere a P p b → GoesWhere a P (in_turn (p ∷ [])) b
turn-last a b P p g = where-as a b P p (in_turn (p ∷ [])) (λ w x. sym (turns-one p w)) g

-- ---- a phase for each of a row

module _ (A : Type 0) (P : World → Type 0) (lasts : Lasts P) (f : A → Phase) (xs : List A) where
  pub each-first : (a : Course) → GoesWhere a P (in_turn (map f (take 0 xs))) a
  each-first a = where-none a P (in_turn (map f (take 0 xs))) turns-none

  pub each-next : (i : ℕ) (d x : A) (a b c : Course) (Q : World → Type 0) → i < length xs
      → x ≡ slice_index_or xs i d → ((w : World) → P w → Q w)
      → GoesWhere a P (in_turn (map f (take i xs))) b → GoesWhere b Q (f x) c
      → GoesWhere a P (in_turn (map f (take (i + 1) xs))) c
  each-next i d x a b c Q l at k g h =
      let done : List Phase = map f (take i xs) in
      where-as a c P (λ w. in_turn done w ++ f x (after w (in_turn done w))) (in_turn (map f (take (i + 1) xs)))
      (λ w y. sym (ap (λ (ps : List Phase). in_turn ps w) more ∙ turns-more done (f x) w))
      (where-both a b c P Q (in_turn done) (f x) g h (λ w y. k (after w (in_turn done w)) (lasts w (in_turn done w) y)))
    where
      more : map f (take (i + 1) xs) ≡ map f (take i xs) ++ f x ∷ []
      more =
          ap (λ (ys : List A). map f ys) (take_more xs i d l ∙ ap (λ (y : A). take i xs ++ y ∷ []) (sym at))
          ∙ map-append f (take i xs) (x ∷ [])

  pub each-all : (i : ℕ) (a b : Course) → length xs ≤ i → GoesWhere a P (in_turn (map f (take i xs))) b
      → GoesWhere a P (in_turn (map f xs)) b
  each-all i a b l g =
      where-as a b P (in_turn (map f (take i xs))) (in_turn (map f xs))
      (λ w x. ap (λ (ys : List A). in_turn (map f ys) w) (take_all i xs l)) g

-- ---- results

-- what comes of an Ok comes of what it is
pub on-ok-too : (P Q : Type 0) (r : Result (Unit {0}) Fault) → (P → Q) → OnOk r P → OnOk r Q
on-ok-too P Q (Ok x) f h = f h
on-ok-too P Q (Err n) f h = tt

pub if-ok-too : {A : Type 0} (P Q : A → Type 0) (r : Result A Fault) → ((x : A) → P x → Q x) → IfOk r P → IfOk r Q
if-ok-too P Q (Ok x) f h = f x h
if-ok-too P Q (Err n) f h = tt
