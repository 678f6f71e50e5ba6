-- Phases of healing that come about, one after the other.
use Rattle.std.specs.Prelude.{slice_index_or}
use Rattle.std.proofs.Common.{ℕ, ◌+◌, ◌<◌, ◌≤◌, ◌≡◌, List, [], ◌∷◌, ◌++◌, map, length, take, sym, ap, subst, ◌∙◌, refl, Option, append_assoc, Result, Ok, Err, OnOk}
use Rattle.std.proofs.lemmas.List.{map-append, take_more, take_all}
use Rattle.definitions.specs.Events.{happens}
use Rattle.definitions.specs.Frames.{Frame}
use Rattle.definitions.specs.Replicas.{MemorySupply.ample}
use Rattle.definitions.specs.Runs.{after}
use Rattle.definitions.specs.Worlds.{World, Event, Event.relay, Event.offer, Event.lead, Source.of_record, Happening}
use Rattle.recovery.specs.Correct.{amply}
use Rattle.recovery.specs.Healing.{Phase, comes_to, offered_to, lead_with}
use Rattle.world_schedule.specs.declared.event.Event as code
use Rattle.world_schedule.specs.declared.event.Event.TheVariants.{Lead}
use Rattle.ids.specs.declared.fault.Fault.{Fault}
use Rattle.definitions.specs.Bytes.{Bytes}
use Rattle.world_schedule.specs.Progress.{Stand, StandsAt}
use Rattle.world_schedule.specs.Schedules.{event_of}
use Rattle.healer.specs.Courses.{Course, Takes, Goes}
use Rattle.healer.proofs.Courses.{nothing-behind}

pub after-none : (w : World) → after w [] ≡ w
unfolding after
after-none w = refl

pub after-append : (w : World) (xs ys : List Happening) → after w (xs ++ ys) ≡ after (after w xs) ys
unfolding after
after-append w [] ys = refl
after-append w (x ∷ xs) ys = after-append (happens w x) xs ys

-- nothing happened
pub goes-none : (a : Course) → Goes a (λ w. []) a
goes-none a = λ hs w t.
    subst (λ (l : List Happening). StandsAt a.stand l (after w [])) (sym (nothing-behind hs))
    (subst (λ (v : World). StandsAt a.stand hs v) (sym (after-none w)) t)

-- two in turn are one
pub joined : (r : Stand) (hs p q : List Happening) (w : World) → StandsAt r ((hs ++ p) ++ q) (after (after w p) q)
    → StandsAt r (hs ++ (p ++ q)) (after w (p ++ q))
joined r hs p q w t =
    subst (λ (l : List Happening). StandsAt r l (after w (p ++ q))) (append_assoc hs p q)
    (subst (λ (v : World). StandsAt r ((hs ++ p) ++ q) v) (sym (after-append w p q)) t)

-- the same phase, in other words
pub goes-as : (a b : Course) (p q : Phase) → ((w : World) → p w ≡ q w) → Goes a p b → Goes a q b
goes-as a b p q is g = λ hs w t.
    subst (λ (l : List Happening). StandsAt b.stand (hs ++ l) (after w l)) (is w) (g hs w t)

-- one phase, and another in the world that it leaves
pub goes-both : (a b c : Course) (p q : Phase) → Goes a p b → Goes b q c
    → Goes a (λ w. p w ++ q (after w (p w))) c
goes-both a b c p q g h = λ hs w t.
    joined c.stand hs (p w) (q (after w (p w))) w (h (hs ++ p w) (after w (p w)) (g hs w t))

-- a phase, and one event
pub goes-event : (a b c : Course) (p : Phase) (event : code.Event) (e : Event) → Goes a p b → Takes b event c
    → ((reads : List (Option Frame)) → event_of reads event ≡ e) → Goes a (λ w. p w ++ (e, ample) ∷ []) c
unfolding after
goes-event a b c p event e g t is = λ hs w s.
    let k = t (hs ++ p w) (after w (p w)) (g hs w s) in
    joined c.stand hs (p w) ((e, ample) ∷ []) w
    (subst (λ (x : Event).
    StandsAt c.stand ((hs ++ p w) ++ (x, ample) ∷ []) (happens (after w (p w)) (x, ample))) (is k.reads) k.stands)

-- one event alone
pub goes-one : (a b : Course) (event : code.Event) (e : Event) → Takes a event b
    → ((reads : List (Option Frame)) → event_of reads event ≡ e) → Goes a (λ w. amply (e ∷ [])) b
goes-one a b event e t is = goes-event a a b (λ w. []) event e (goes-none a) t is

-- an event for each of a row, one more
pub goes-further : (A : Type 0) (f : A → Event) (xs : List A) (i : ℕ) (d x : A) (a b c : Course) (event : code.Event)
    → i < length xs → x ≡ slice_index_or xs i d → Goes a (λ w. amply (map f (take i xs))) b → Takes b event c
    → ((reads : List (Option Frame)) → event_of reads event ≡ f x)
    → Goes a (λ w. amply (map f (take (i + 1) xs))) c
goes-further A f xs i d x a b c event l at g t is =
    goes-as a c (λ w. amply (map f (take i xs)) ++ (f x, ample) ∷ []) (λ w. amply (map f (take (i + 1) xs)))
    (λ w. sym (more ∙ behind)) (goes-event a b c (λ w. amply (map f (take i xs))) event (f x) g t is)
  where
    more : amply (map f (take (i + 1) xs)) ≡ amply (map f (take i xs ++ slice_index_or xs i d ∷ []))
    more = ap (λ (ys : List A). amply (map f ys)) (take_more xs i d l)

    behind : amply (map f (take i xs ++ slice_index_or xs i d ∷ [])) ≡ amply (map f (take i xs)) ++ (f x, ample) ∷ []
    behind =
        ap (λ (es : List Event). amply es) (map-append f (take i xs) (slice_index_or xs i d ∷ []))
        ∙ (map-append (λ e. (e, ample)) (map f (take i xs)) (f (slice_index_or xs i d) ∷ [])
        ∙ ap (λ (y : A). amply (map f (take i xs)) ++ (f y, ample) ∷ []) (sym at))

-- and all of them
pub goes-through : (A : Type 0) (f : A → Event) (xs : List A) (i : ℕ) (a b : Course) → length xs ≤ i
    → Goes a (λ w. amply (map f (take i xs))) b → Goes a (λ w. amply (map f xs)) b
goes-through A f xs i a b l g =
    goes-as a b (λ w. amply (map f (take i xs))) (λ w. amply (map f xs))
    (λ w. ap (λ (ys : List A). amply (map f ys)) (take_all i xs l)) g

-- ---- frames that come to several

comes-more : (rs : List ℕ) (r : ℕ) (frames : List ℕ)
    → comes_to (rs ++ r ∷ []) frames ≡ comes_to rs frames ++ map (λ k. relay k r) frames
unfolding comes_to
comes-more [] r frames = nothing-behind (map (λ k. relay k r) frames)
comes-more (p ∷ rs) r frames =
    ap (λ (es : List Event). map (λ k. relay k p) frames ++ es) (comes-more rs r frames)
    ∙ sym (append_assoc (map (λ k. relay k p) frames) (comes_to rs frames) (map (λ k. relay k r) frames))

offers-more : (rs : List ℕ) (r : ℕ) (frames : List ℕ)
    → offered_to (rs ++ r ∷ []) frames ≡ offered_to rs frames ++ map (λ k. offer r (of_record k)) frames
unfolding offered_to
offers-more [] r frames = nothing-behind (map (λ k. offer r (of_record k)) frames)
offers-more (p ∷ rs) r frames =
    ap (λ (es : List Event). map (λ k. offer p (of_record k)) frames ++ es) (offers-more rs r frames)
    ∙ sym (append_assoc (map (λ k. offer p (of_record k)) frames) (offered_to rs frames)
    (map (λ k. offer r (of_record k)) frames))

comes-none : (frames : List ℕ) → comes_to [] frames ≡ []
unfolding comes_to
comes-none frames = refl

offers-none : (frames : List ℕ) → offered_to [] frames ≡ []
unfolding offered_to
offers-none frames = refl

module _ (each : List ℕ → List ℕ → List Event) (of : ℕ → List ℕ → List Event)
    (more : (rs : List ℕ) (r : ℕ) (frames : List ℕ) → each (rs ++ r ∷ []) frames ≡ each rs frames ++ of r frames)
    (none : (frames : List ℕ) → each [] frames ≡ []) where
  begins-with : (rs frames : List ℕ) (a : Course) → Goes a (λ w. amply (each (take 0 rs) frames)) a
  begins-with rs frames a =
      goes-as a a (λ w. []) (λ w. amply (each (take 0 rs) frames))
      (λ w. ap (λ (es : List Event). amply es) (sym (none frames))) (goes-none a)

  goes-to-next : (rs frames : List ℕ) (i d r : ℕ) (a b c : Course) → i < length rs → r ≡ slice_index_or rs i d
      → Goes a (λ w. amply (each (take i rs) frames)) b → Goes b (λ w. amply (of r frames)) c
      → Goes a (λ w. amply (each (take (i + 1) rs) frames)) c
  goes-to-next rs frames i d r a b c l at g h =
      goes-as a c (λ w. amply (each (take i rs) frames) ++ amply (of r frames))
      (λ w. amply (each (take (i + 1) rs) frames)) (λ w. sym whole)
      (goes-both a b c (λ w. amply (each (take i rs) frames)) (λ w. amply (of r frames)) g h)
    where
      whole : amply (each (take (i + 1) rs) frames) ≡ amply (each (take i rs) frames) ++ amply (of r frames)
      whole =
          ap (λ (ys : List ℕ). amply (each ys frames))
          (take_more rs i d l ∙ ap (λ (y : ℕ). take i rs ++ y ∷ []) (sym at))
          ∙ (ap (λ (es : List Event). amply es) (more (take i rs) r frames)
          ∙ map-append (λ e. (e, ample)) (each (take i rs) frames) (of r frames))

  goes-to-all : (rs frames : List ℕ) (i : ℕ) (a b : Course) → length rs ≤ i
      → Goes a (λ w. amply (each (take i rs) frames)) b → Goes a (λ w. amply (each rs frames)) b
  goes-to-all rs frames i a b l g =
      goes-as a b (λ w. amply (each (take i rs) frames)) (λ w. amply (each rs frames))
      (λ w. ap (λ (ys : List ℕ). amply (each ys frames)) (take_all i rs l)) g

abbrev pub relays : ℕ → List ℕ → List Event
relays r frames = map (λ k. relay k r) frames

abbrev pub offerings : ℕ → List ℕ → List Event
offerings r frames = map (λ k. offer r (of_record k)) frames

pub brings-first : (rs frames : List ℕ) (a : Course) → Goes a (λ w. amply (comes_to (take 0 rs) frames)) a
brings-first = begins-with comes_to relays comes-more comes-none

pub brings-next : (rs frames : List ℕ) (i d r : ℕ) (a b c : Course) → i < length rs → r ≡ slice_index_or rs i d
    → Goes a (λ w. amply (comes_to (take i rs) frames)) b → Goes b (λ w. amply (relays r frames)) c
    → Goes a (λ w. amply (comes_to (take (i + 1) rs) frames)) c
brings-next = goes-to-next comes_to relays comes-more comes-none

pub brings-all : (rs frames : List ℕ) (i : ℕ) (a b : Course) → length rs ≤ i
    → Goes a (λ w. amply (comes_to (take i rs) frames)) b → Goes a (λ w. amply (comes_to rs frames)) b
brings-all = goes-to-all comes_to relays comes-more comes-none

pub offers-first : (rs frames : List ℕ) (a : Course) → Goes a (λ w. amply (offered_to (take 0 rs) frames)) a
offers-first = begins-with offered_to offerings offers-more offers-none

pub offers-next : (rs frames : List ℕ) (i d r : ℕ) (a b c : Course) → i < length rs → r ≡ slice_index_or rs i d
    → Goes a (λ w. amply (offered_to (take i rs) frames)) b → Goes b (λ w. amply (offerings r frames)) c
    → Goes a (λ w. amply (offered_to (take (i + 1) rs) frames)) c
offers-next = goes-to-next offered_to offerings offers-more offers-none

pub offers-all : (rs frames : List ℕ) (i : ℕ) (a b : Course) → length rs ≤ i
    → Goes a (λ w. amply (offered_to (take i rs) frames)) b → Goes a (λ w. amply (offered_to rs frames)) b
offers-all = goes-to-all offered_to offerings offers-more offers-none

-- ---- a lead

pub leads-with : (k l : ℕ) (d : Bytes) (a m b : Course) (r : Result (Unit {0}) Fault) → Takes a (Lead l d) m
    → OnOk r (Goes m (λ w. amply (comes_to (l ∷ []) (k ∷ []))) b) → OnOk r (Goes a (lead_with k l d) b)
unfolding comes_to
leads-with k l d a m b (Err n) t h = tt
leads-with k l d a m b (Ok x) t h =
    goes-both a m b (λ w. amply (lead l d ∷ [])) (λ w. amply (comes_to (l ∷ []) (k ∷ [])))
    (goes-one a m (Lead l d) (lead l d) t (λ reads. refl)) h
