-- Worlds along events: what stays, runs in pieces, and the step of a correct replica that goes on.
use Rattle.ids.specs.declared.fault.Fault.{Fault}
use Rattle.std.proofs.Common.{ℕ, ◌≡◌, ◌&&◌, not, Bool, true, false, cond, List, [], ◌∷◌, ◌++◌, refl, sym, ap, subst}
use Rattle.std.proofs.Common.{◌∙◌, Option, Some, None, Result, Ok, Err}
use Rattle.std.proofs.lemmas.Bool.{cond-false}
use Rattle.definitions.specs.Checks.{Identity}
use Rattle.definitions.specs.Keyrings.{Keyring, is_replica_of, is_party_of}
use Rattle.definitions.specs.Rulings.{Input, ruling}
use Rattle.definitions.specs.Replicas.{MemorySupply, Replica, Reaction, Standing, Standing.running, on_ruling, step}
use Rattle.definitions.specs.Replicas.{Standing.stopped, Standing.cut_short, Reaction.fails}
use Rattle.definitions.specs.Worlds.{World, Event, Happening, is_correct, is_party, self_of}
use Rattle.recovery.specs.Correct.{ShareKeys}
use Rattle.definitions.specs.Runs.{names_party, names_frame, names_request, refusal, run, after}
use Rattle.definitions.specs.Events.{party_of, acts, effect, happens}
use Rattle.ids.specs.declared.fault.Fault.TheVariants as fault

-- ---- what stays

-- the worlds have the same sizes, parties and keys
pub record IsMadeAs (w last : World) : Type 0 where
  pub sizes : last.sizes ≡ w.sizes
  pub faulty : last.is_faulty ≡ w.is_faulty
  pub ring : last.ring ≡ w.ring

pub made-after : (w : World) (hs : List Happening) → IsMadeAs w (after w hs)
unfolding after happens
made-after w [] = record { sizes = refl; faulty = refl; ring = refl }
made-after w (h ∷ hs) =
    let r = made-after (happens w h) hs in record { sizes = r.sizes; faulty = r.faulty; ring = r.ring }

-- so they have the same correct replicas
pub same-correct : (w last : World) → IsMadeAs w last → (r : ℕ) → is_correct last r ≡ is_correct w r
same-correct w last m r = λ k. is_replica_of (m.sizes k) r && not (m.faulty k r)

pub same-self : (w last : World) → IsMadeAs w last → (r : ℕ) → self_of last r ≡ self_of w r
same-self w last m r = λ k. record { sizes = m.sizes k; ring = m.ring k r }

pub made-both : (w mid last : World) → IsMadeAs w mid → IsMadeAs mid last → IsMadeAs w last
made-both w mid last h k =
    record { sizes = k.sizes ∙ h.sizes; faulty = k.faulty ∙ h.faulty; ring = k.ring ∙ h.ring }

-- and the same keys
pub keys-in : (w last : World) → IsMadeAs w last → ShareKeys w → ShareKeys last
keys-in w last m keys = record {
  numbers = λ p party ok.
      ap (λ (ring : ℕ → Keyring). (ring p).party) m.ring
      ∙ keys.numbers p (sym (same-party p) ∙ party) (sym (ap (λ (f : ℕ → Bool). f p) m.faulty) ∙ ok);
  keys = λ r c p party ok.
      ap (λ (ring : ℕ → Keyring). (ring r).key p) m.ring
      ∙ (keys.keys r (sym (same-correct w last m r) ∙ c) p (sym (same-party p) ∙ party)
      (sym (ap (λ (f : ℕ → Bool). f p) m.faulty) ∙ ok)
      ∙ sym (ap (λ (ring : ℕ → Keyring). (ring p).key r) m.ring));
}
  where
    same-party : (p : ℕ) → is_party last p ≡ is_party w p
    same-party p = λ k. is_party_of (m.sizes k) p

-- ---- runs in pieces

pub after-none : (w : World) → after w [] ≡ w
unfolding after
after-none w = refl

-- one event after the other
pub after-append : (w : World) (xs ys : List Happening) → after w (xs ++ ys) ≡ after (after w xs) ys
unfolding after
after-append w [] ys = refl
after-append w (x ∷ xs) ys = after-append (happens w x) xs ys

-- none of these events is refused
abbrev pub Passes : World → List Happening → Type 0
Passes w hs = run w hs ≡ Ok (after w hs)

pub passes-none : (w : World) → Passes w []
unfolding run after
passes-none w = refl

passes-by : (o : Option Fault) (next : Result World Fault) (last : World) → o ≡ None → next ≡ Ok last
    → elim o as (λ x. Result World Fault) [ Some n ↦ Err n | None ↦ next ] ≡ Ok last
passes-by o next last e h =
    subst (λ (x : Option Fault). elim x as (λ y. Result World Fault) [ Some n ↦ Err n | None ↦ next ] ≡ Ok last)
    (sym e) h

pub passes-one : (w : World) (h : Happening) (hs : List Happening) → refusal w h.0 ≡ None
    → Passes (happens w h) hs → Passes w (h ∷ hs)
unfolding run after
passes-one w h hs e p = passes-by (refusal w h.0) (run (happens w h) hs) (after (happens w h) hs) e p

err-ok : (n : Fault) (w : World) → Err n ≡ Ok w → ⊥
err-ok n w e = cc

run-append : (w mid : World) (xs ys : List Happening) → run w xs ≡ Ok mid → run w (xs ++ ys) ≡ run mid ys
unfolding run
run-append w mid [] ys e = let k : w ≡ mid = cc in ap (λ (z : World). run z ys) k
run-append w mid (h ∷ hs) ys e = by (refusal w h.0) e (λ k. run-append (happens w h) mid hs ys k)
  where
    by : (o : Option Fault)
        → elim o as (λ x. Result World Fault) [ Some n ↦ Err n | None ↦ run (happens w h) hs ] ≡ Ok mid
        → (run (happens w h) hs ≡ Ok mid → run (happens w h) (hs ++ ys) ≡ run mid ys)
        → elim o as (λ x. Result World Fault) [ Some n ↦ Err n | None ↦ run (happens w h) (hs ++ ys) ]
        ≡ run mid ys
    by (Some n) k rest = absurd (err-ok n mid k)
    by None k rest = rest k

pub passes-append : (w : World) (xs ys : List Happening) → Passes w xs → Passes (after w xs) ys
    → Passes w (xs ++ ys)
passes-append w xs ys p q =
    run-append w (after w xs) xs ys p ∙ (q ∙ ap (λ (z : World). Ok z) (sym (after-append w xs ys)))

-- an event is not refused where each of its parts is named
pub named : (w : World) (e : Event) → names_party w e ≡ true → names_frame w e ≡ true → names_request e ≡ true
    → refusal w e ≡ None
unfolding refusal
named w e p f q =
    off (names_party w e) (Some fault.NoSuchParty) _ p
    ∙ (off (names_frame w e) (Some fault.NoSuchFrame) _ f ∙ off (names_request e) (Some fault.NotARequest) None q)
  where
    off : (t : Bool) (x y : Option Fault) → t ≡ true → cond (not t) x y ≡ y
    off t x y h = cond-false (not t) x y (ap not h)

-- ---- steps

-- an event of a party that isn't faulty
pub effect-correct : (w : World) (h : Happening) → w.is_faulty (party_of h.0) ≡ false
    → effect w h ≡ acts w h.0 h.1
unfolding effect
effect-correct w h e = cond-false (w.is_faulty (party_of h.0)) _ _ e

-- a step of a replica that goes on
pub step-running : (self : Identity) (m : MemorySupply) (i : Input) (r : Replica) → r.standing ≡ running
    → step self m i r ≡ on_ruling self m (ruling self i r.chronicle) r.chronicle
unfolding step
step-running self m i r e =
    subst (λ (s : Standing).
    elim s as (λ x. Replica × Reaction) [
      | running ↦ on_ruling self m (ruling self i r.chronicle) r.chronicle
      | stopped ↦ (r, fails fault.Stopped)
      | cut_short held ↦ (r, fails fault.Stopped)
    ] ≡ on_ruling self m (ruling self i r.chronicle) r.chronicle) (sym e) refl
