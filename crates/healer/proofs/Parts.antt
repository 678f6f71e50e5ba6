-- A part of a run: what holds of the whole holds of it, and what came about in it stays.
use Rattle.ids.specs.declared.fault.Fault.{Fault}
use Rattle.std.proofs.Common.{◌≡◌, List, [], ◌∷◌, ◌++◌, Option, Some, None, Result, Ok, Err, inl, inr, sym, subst, ◌∙◌, refl}
use Rattle.ids.specs.Sizes.{Sizes}
use Rattle.definitions.specs.Events.{happens}
use Rattle.definitions.specs.Frames.{Core}
use Rattle.definitions.specs.Lists.{Among}
use Rattle.definitions.specs.Premises.{AllRead, NoForgery, CoreBrought, CoreOfRun, ArePremises}
use Rattle.definitions.specs.Runs.{refusal, run, after}
use Rattle.definitions.specs.Worlds.{World, Sent, AcceptedBy, Happening}
use Rattle.definitions.proofs.Lists.{Among-before, Among-after}
use Rattle.linear_law.proofs.Linear.{run-step}
use Rattle.healer.proofs.Phases.{after-append}

-- a run ends in the world after it
pub run-after : (hs : List Happening) (w last : World) → run w hs ≡ Ok last → after w hs ≡ last
unfolding run after
run-after [] w last e = let k : w ≡ last = cc in k
run-after (h ∷ hs) w last e =
    let r = run-step (refusal w h.0) (run (happens w h) hs) last e in run-after hs (happens w h) last r.1

-- the first part of one is refused nothing
pub run-before : (xs ys : List Happening) (w last : World) → run w (xs ++ ys) ≡ Ok last → run w xs ≡ Ok (after w xs)
unfolding run after
run-before [] ys w last e = refl
run-before (h ∷ xs) ys w last e =
    let r = run-step (refusal w h.0) (run (happens w h) (xs ++ ys)) last e in
    goes (refusal w h.0) r.0 ∙ run-before xs ys (happens w h) last r.1
  where
    goes : (o : Option Fault) → o ≡ None
        → elim o as (λ x. Result World Fault) [ Some n ↦ Err n | None ↦ run (happens w h) xs ] ≡ run (happens w h) xs
    goes None e = refl
    goes (Some n) e = let no : ⊥ = cc in absurd no

-- ---- the record

sent-on : (w : World) (hs : List Happening) (s : Sent) → Among s w.sent → Among s (after w hs).sent
unfolding after happens
sent-on w [] s m = m
sent-on w (h ∷ hs) s m = sent-on (happens w h) hs s (Among-before s w.sent _ m)

pub receipts-on : (w : World) (hs : List Happening) (r : AcceptedBy) → Among r w.receipts
    → Among r (after w hs).receipts
unfolding after happens
receipts-on w [] r m = m
receipts-on w (h ∷ hs) r m = receipts-on (happens w h) hs r (Among-after r _ w.receipts m)

-- ---- premises

read-before : (sizes : Sizes) (xs ys : List Happening) → AllRead sizes (xs ++ ys) → AllRead sizes xs
read-before sizes [] ys a = tt
read-before sizes (x ∷ xs) ys a = (a.0, read-before sizes xs ys a.1)

unforged-before : (w : World) (xs ys : List Happening) → NoForgery w (xs ++ ys) → NoForgery w xs
unforged-before w [] ys a = tt
unforged-before w (x ∷ xs) ys a = (a.0, unforged-before (happens w x) xs ys a.1)

brought-more : (c : Core) (w : World) (xs ys : List Happening) → CoreBrought c w xs → CoreBrought c w (xs ++ ys)
brought-more c w [] ys b = absurd b
brought-more c w (x ∷ xs) ys (inl k) = inl k
brought-more c w (x ∷ xs) ys (inr b) = inr (brought-more c (happens w x) xs ys b)

core-more : (w : World) (xs ys : List Happening) (c : Core) → CoreOfRun w xs c → CoreOfRun w (xs ++ ys) c
core-more w xs ys c (inl e) = inl e
core-more w xs ys c (inr (inl k)) =
    inr (inl (
      k.0,
      subst (λ (v : World). Among k.0 v.sent) (sym (after-append w xs ys)) (sent-on (after w xs) ys k.0 k.1),
      k.2,
    ))
core-more w xs ys c (inr (inr b)) = inr (inr (brought-more c w xs ys b))

pub premises-before : (w : World) (xs ys : List Happening) → ArePremises w (xs ++ ys) → ArePremises w xs
premises-before w xs ys met = record {
  few = met.few;
  keys = met.keys;
  read = read-before w.sizes xs ys met.read;
  no_forgery = unforged-before w xs ys met.no_forgery;
  no_collision = λ a b ka kb. met.no_collision a b (core-more w xs ys a ka) (core-more w xs ys b kb);
}
