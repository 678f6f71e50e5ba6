-- A world on the way of a run whose premises hold.
use Rattle.std.proofs.Common.{ℕ, ◌≡◌, Bool, List, [], ◌∷◌, ◌++◌, refl, sym, ap, subst, ◌∙◌, inl, inr, Ok, None}
use Rattle.ids.specs.Sizes.{Sizes}
use Rattle.definitions.specs.Lists.{Among}
use Rattle.definitions.specs.Frames.{Core}
use Rattle.definitions.specs.FrameLimits.{IsCore}
use Rattle.definitions.specs.Keyrings.{Keyring}
use Rattle.definitions.specs.Worlds.{World, Sent, Happening, new_world}
use Rattle.definitions.specs.Runs.{refusal, run, after}
use Rattle.definitions.specs.Events.{happens}
use Rattle.definitions.specs.Premises.{ArePremises}
use Rattle.definitions.proofs.Lists.{Among-before}
use Rattle.linear_law.proofs.Fits.{core-frame}
use Rattle.linear_law.proofs.Linear.{run-step}
use Rattle.linear_law.proofs.WholeRuns.{IsWell, AssumedAlong, well-happens, comes-framed, KnownIn, new-sizes}
use Rattle.linear_law.proofs.WholeRuns.{new-well}
use Rattle.linear_law.proofs.WholeRuns.{known-apart, known-genesis, known-along}
use Rattle.recovery.specs.Healing.{Phase, in_turn}
use Rattle.recovery.proofs.Worlds.{made-after, after-append, Passes, passes-append, passes-none}
use Rattle.std.proofs.lemmas.List.{append_assoc}
use Rattle.recovery.proofs.Ruled.{AllRuled, happens-ruled}
use Rattle.recovery.proofs.SentVotes.{VotesSent, happens-votes}
use Rattle.recovery.proofs.SentRequests.{AreOwn, happens-own}
use Rattle.recovery.proofs.Wells.{IsReached, run-after, well-run, new-ruled, new-votes, new-own, new-few}
use Rattle.recovery.proofs.Wells.{new-firsts}
use Rattle.recovery.proofs.Firsts.{AllFirst, happens-first}
use Rattle.recovery.proofs.Tallies.{HaveFew, happens-few}
use Rattle.recovery.proofs.Waiting.{HaveAsked, happens-asked}
use Rattle.recovery.proofs.Wells.{new-asked}

-- the cores of a whole run
abbrev pub KnownAt : (sizes : Sizes) → World → List Happening → Core → Type 0
KnownAt sizes start all = KnownIn sizes start all

-- a world of the run of `all`, with these events to go
pub record IsOnWay (sizes : Sizes) (start : World) (all : List Happening) (w : World) (ahead : List Happening) : Type 0
  where
    pub premises : ArePremises start all
    pub starts : start.sizes ≡ sizes
    pub well : IsWell (KnownAt sizes start all) w
    pub ruled : AllRuled w
    pub votes : VotesSent w
    pub requests : AreOwn w w.sent
    pub tallies : HaveFew w
    pub asked : HaveAsked w
    pub firsts : AllFirst (KnownAt sizes start all) (known-apart sizes start all premises)
        (known-genesis sizes start all) w
    pub assumed : AssumedAlong (KnownAt sizes start all) w ahead
    pub ends : after w ahead ≡ after start all

-- what was sent stays in the record
sent-on : (w : World) (hs : List Happening) (s : Sent) → Among s w.sent → Among s (after w hs).sent
unfolding after happens
sent-on w [] s m = m
sent-on w (h ∷ hs) s m = sent-on (happens w h) hs s (Among-before s w.sent _ m)

-- what is assumed of two schedules, one after the other
assumed-both : (Known : Core → Type 0) (w : World) (xs ys : List Happening) → AssumedAlong Known w (xs ++ ys)
    → AssumedAlong Known w xs × AssumedAlong Known (after w xs) ys
unfolding after
assumed-both Known w [] ys a = (tt, a)
assumed-both Known w (x ∷ xs) ys a = let r = assumed-both Known (happens w x) xs ys a.1 in ((a.0, r.0), r.1)

-- a world after the first part of a run
pub on-way-from :
    (sizes : Sizes) (is_faulty : ℕ → Bool) (ring : ℕ → Keyring) (hs ahead : List Happening) (w : World)
    → ArePremises (new_world sizes is_faulty ring) (hs ++ ahead) → run (new_world sizes is_faulty ring) hs ≡ Ok w
    → IsOnWay sizes (new_world sizes is_faulty ring) (hs ++ ahead) w ahead
on-way-from sizes is_faulty ring hs ahead w met e =
    let start : World = new_world sizes is_faulty ring in
    let all : List Happening = hs ++ ahead in
    let Known : Core → Type 0 = KnownAt sizes start all in
    let assumed = assumed-both Known start hs ahead (known-along sizes start all
    (new-sizes sizes is_faulty ring) met) in
    let end : after start hs ≡ w = run-after hs start w e in
    let kept = well-run Known (known-apart sizes start all met) (known-genesis sizes start all) hs start w
    (record {
      well = new-well sizes is_faulty ring all met;
      ruled = new-ruled sizes is_faulty ring;
      votes = new-votes sizes is_faulty ring;
      requests = new-own sizes is_faulty ring;
      tallies = new-few sizes is_faulty ring;
      asked = new-asked sizes is_faulty ring;
      firsts = new-firsts Known (known-apart sizes start all met) (known-genesis sizes start all) sizes is_faulty ring;
    }) assumed.0 e in
    record {
      premises = met;
      starts = new-sizes sizes is_faulty ring;
      well = kept.well;
      ruled = kept.ruled;
      votes = kept.votes;
      requests = kept.requests;
      tallies = kept.tallies;
      asked = kept.asked;
      firsts = kept.firsts;
      assumed = subst (λ (z : World). AssumedAlong Known z ahead) end assumed.1;
      ends = ap (λ (z : World). after z ahead) (sym end) ∙ sym (after-append start hs ahead);
    }

module _ (sizes : Sizes) (start : World) (all : List Happening) where
  -- its sizes
  pub way-sizes : (w : World) (ahead : List Happening) → IsOnWay sizes start all w ahead → w.sizes ≡ sizes
  way-sizes w ahead on =
      sym (made-after w ahead).sizes ∙ (ap (λ (z : World). z.sizes) on.ends ∙ ((made-after start all).sizes
      ∙ on.starts))

  -- it is reached
  pub on-way : (w : World) (ahead : List Happening) → IsOnWay sizes start all w ahead
      → IsReached (KnownAt sizes start all) w
  unfolding KnownIn
  on-way w ahead on = record {
    apart = known-apart sizes start all on.premises;
    genesis = known-genesis sizes start all;
    well = on.well;
    ruled = on.ruled;
    requests = on.requests;
    tallies = on.tallies;
    asked = on.asked;
    firsts = on.firsts;
    sent = λ s m x o. (
      inr (inl (s, subst (λ (z : World). Among s z.sent) on.ends (sent-on w ahead s m), o)),
      inr (subst (λ (z : Sizes). IsCore z x) (way-sizes w ahead on)
          (core-frame w.sizes s.frame x (on.well.framed.sent s m).0 o)),
    );
  }

  -- so is the next one
  pub way-on : (w : World) (h : Happening) (ahead : List Happening) → IsOnWay sizes start all w (h ∷ ahead)
      → refusal w h.0 ≡ None → IsOnWay sizes start all (happens w h) ahead
  unfolding after
  way-on w h ahead on ok =
      let Known : Core → Type 0 = KnownAt sizes start all in
      let apart = known-apart sizes start all on.premises in
      let genesis = known-genesis sizes start all in
      let framed = comes-framed w h.0 on.assumed.0.read on.well.framed.sent in
      let well = well-happens Known apart genesis w h on.well on.assumed.0 ok in
      record {
        premises = on.premises;
        starts = on.starts;
        well = well;
        ruled = happens-ruled Known w h on.well framed ok on.ruled;
        votes = happens-votes Known w h on.well framed ok on.votes;
        requests = happens-own Known w h on.well framed ok on.requests;
        tallies = happens-few w h framed ok on.tallies;
        asked = happens-asked w h framed ok on.asked;
        firsts = happens-first Known apart genesis w h on.well well framed ok on.firsts;
        assumed = on.assumed.1;
        ends = on.ends;
      }

  -- and the one after a phase
  pub way-past : (xs ahead : List Happening) (w : World) → IsOnWay sizes start all w (xs ++ ahead) → Passes w xs
      → IsOnWay sizes start all (after w xs) ahead
  unfolding after run
  way-past [] ahead w on p = on
  way-past (x ∷ xs) ahead w on p =
      let r = run-step (refusal w x.0) (run (happens w x) xs) (after (happens w x) xs) p in
      way-past xs ahead (happens w x) (way-on w x (xs ++ ahead) on r.0) r.1

  -- the first of several phases is ahead, and the others after it
  pub turn-on : (p : Phase) (ps : List Phase) (w : World) (rest : List Happening)
      → IsOnWay sizes start all w (in_turn (p ∷ ps) w ++ rest)
      → IsOnWay sizes start all w (p w ++ (in_turn ps (after w (p w)) ++ rest))
  unfolding in_turn
  turn-on p ps w rest on =
      subst (IsOnWay sizes start all w) (append_assoc (p w) (in_turn ps (after w (p w))) rest) on

-- phases pass, and end, one after the other
pub turn-passes : (p : Phase) (ps : List Phase) (w : World) → Passes w (p w)
    → Passes (after w (p w)) (in_turn ps (after w (p w))) → Passes w (in_turn (p ∷ ps) w)
unfolding in_turn
turn-passes p ps w h k = passes-append w (p w) (in_turn ps (after w (p w))) h k

pub turn-after : (p : Phase) (ps : List Phase) (w : World)
    → after w (in_turn (p ∷ ps) w) ≡ after (after w (p w)) (in_turn ps (after w (p w)))
unfolding in_turn
turn-after p ps w = after-append w (p w) (in_turn ps (after w (p w)))

pub turns-none : (w : World) → Passes w (in_turn [] w) × (after w (in_turn [] w) ≡ w)
unfolding in_turn after
turns-none w = (passes-none w, refl)
