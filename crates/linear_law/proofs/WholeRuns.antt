-- Whole runs: what holds of their beginning and is kept by each event holds at their end. From this each
-- law follows.
use Rattle.std.proofs.Common.{ℕ, zero, suc, slice_get, option_map, ◌≡◌, Bool, true, List, [], ◌∷◌, refl, sym}
use Rattle.std.proofs.Common.{subst, inl, inr, Option, Some, None, Ok}
use Rattle.std.specs.Bool.{⊤}
use Rattle.std.specs.List.{AllByRecursion}
use Rattle.ids.specs.Sizes.{Sizes}
use Rattle.definitions.specs.Lists.{Among}
use Rattle.definitions.specs.Frames.{Core, Frame, spelling, genesis_core}
use Rattle.definitions.specs.FrameLimits.{IsReadAs, IsCore, IsFrame, IsWritten}
use Rattle.definitions.specs.Digests.{NoCollision}
use Rattle.definitions.specs.Keyrings.{Keyring}
use Rattle.definitions.specs.States.{Justified, leaf, proposed}
use Rattle.definitions.specs.Worlds.{World, Sent, Event, Event.submit, Event.relay, Event.inject}
use Rattle.definitions.specs.Worlds.{Event.timeout, Event.beat, Event.prune, Event.offer, Event.gather}
use Rattle.definitions.specs.Worlds.{Event.lead, Event.ask, Source, Source.of_record, Source.of_bytes}
use Rattle.definitions.specs.Worlds.{Happening, self_of, new_world}
use Rattle.definitions.specs.Events.{brought, listed, recorded, frame_of, frames_of, happens}
use Rattle.definitions.specs.Runs.{refusal, run, after}
use Rattle.definitions.specs.Premises.{CoreOf, CoreBrought, CoreOfRun, IsReadFrom, IsReadIn, AllRead, NoForgeryIn}
use Rattle.definitions.specs.Premises.{NoForgery, ArePremises}
use Rattle.definitions.proofs.Lists.{Among-before, Among-either}
use Rattle.definitions.proofs.Spellings.{IsReadAs-unique}
use Rattle.linear_law.proofs.Runs.{chronicles, IsHonest}
use Rattle.linear_law.proofs.Effects.{ComesFramed, is_member}
use Rattle.linear_law.proofs.StoredFrames.{AreStored}
use Rattle.linear_law.proofs.Fits.{IsCoreOrGenesis, core-frame}
use Rattle.linear_law.proofs.Linear.{IsGood, ground, good-happens, run-step, new-good}
use Rattle.linear_law.proofs.Final.{IsAccount, account-happens, correct-quorum, new-account, linear}
use Rattle.linear_law.proofs.FramedRuns.{IsFramed, happens-framed}
use Rattle.linear_law.proofs.MadeCertificates.{has-certificates}
use Rattle.linear_law.specs.Law.{SentAreFrames, EveryRunIsLinear, ChroniclesAreLawful, ChroniclesAreAFamily}
use Rattle.linear_law.specs.Law.{NoEventConflicts, SentFramesAreFrames, SentFramesAreRead}
use Rattle.linear_law.specs.Law.{MadeCertificatesAreCertificates}

-- ---- what comes

-- what has a place in a list stands in it
pub slice_get-among : {A : Type 0} (xs : List A) (i : ℕ) (x : A) → slice_get xs i ≡ Some x → Among x xs
slice_get-among [] i x e = absurd (none e)
  where
    none : None ≡ Some x → ⊥
    none k = cc
slice_get-among (y ∷ xs) zero x e = inl (cc)
slice_get-among (y ∷ xs) (suc i) x e = inr (slice_get-among xs i x e)

-- a recorded frame is one that was sent
recorded-framed : (sizes : Sizes) (xs : List Sent) (k : ℕ) (f : Frame)
    → ((s : Sent) → Among s xs → IsWritten sizes s.frame)
    → option_map (λ s. s.frame) (slice_get xs k) ≡ Some f → IsFrame sizes f
recorded-framed sizes xs k f sent e = by (slice_get xs k) refl e
  where
    by : (o : Option Sent) → slice_get xs k ≡ o → option_map (λ s. s.frame) o ≡ Some f → IsFrame sizes f
    by None i j = absurd (none j)
      where
        none : None ≡ Some f → ⊥
        none h = cc
    by (Some s) i j =
        let here : s.frame ≡ f = cc in subst (IsFrame sizes) here (sent s (slice_get-among xs k s i)).0

-- a frame that is listed alone
listed-framed : (sizes : Sizes) (o : Option Frame) → ((f : Frame) → o ≡ Some f → IsFrame sizes f) → (f : Frame)
    → Among f (listed o) → IsFrame sizes f
listed-framed sizes None h f m = absurd m
listed-framed sizes (Some g) h f (inl e) = subst (IsFrame sizes) (sym e) (h g refl)
listed-framed sizes (Some g) h f (inr n) = absurd n

-- that of a source
source-framed : (w : World) (s : Source) → IsReadFrom w.sizes s → SentAreFrames w → (f : Frame)
    → frame_of w s ≡ Some f → IsFrame w.sizes f
source-framed w (of_record k) rd sent f e = recorded-framed w.sizes w.sent k f sent e
source-framed w (of_bytes bytes read) rd sent f e = (subst (IsReadAs w.sizes bytes) e rd).0

-- those of several
sources-framed : (w : World) (ss : List Source) → AllByRecursion (IsReadFrom w.sizes) ss → SentAreFrames w
    → (f : Frame) → Among f (frames_of w ss) → IsFrame w.sizes f
sources-framed w [] rd sent f m = absurd m
sources-framed w (s ∷ ss) rd sent f m = elim (Among-either f (listed (frame_of w s)) (frames_of w ss) m) [
  | inl k ↦ listed-framed w.sizes (frame_of w s) (source-framed w s rd.0 sent) f k
  | inr k ↦ sources-framed w ss rd.1 sent f k
]

-- what comes is a frame, where each frame that was sent is one that is written
pub comes-framed : (w : World) (e : Event) → IsReadIn w.sizes e → SentAreFrames w → ComesFramed w e
unfolding brought
comes-framed w (submit c payload) rd sent f b = absurd b
comes-framed w (relay k to) rd sent f b =
    listed-framed w.sizes (recorded w k) (λ g e. recorded-framed w.sizes w.sent k g sent e) f b
comes-framed w (inject to bytes read) rd sent f b =
    listed-framed w.sizes read (λ g e. (subst (IsReadAs w.sizes bytes) e rd).0) f b
comes-framed w (timeout r) rd sent f b = absurd b
comes-framed w (beat r) rd sent f b = absurd b
comes-framed w (prune r height) rd sent f b = absurd b
comes-framed w (offer to s) rd sent f b =
    listed-framed w.sizes (frame_of w s) (source-framed w s rd sent) f b
comes-framed w (gather to ss) rd sent f b = sources-framed w ss rd sent f b
comes-framed w (lead r d) rd sent f b = absurd b
comes-framed w (ask r to d) rd sent f b = absurd b

-- ---- what is assumed along a schedule

-- the cores of what was sent are known
abbrev SentKnown : (Core → Type 0) → World → Type 0
SentKnown Known w = (s : Sent) → Among s w.sent → (x : Core) → CoreOf x s.frame → IsCore w.sizes x → Known x

-- of an event: what is injected is read rightly, no tag is forged, and the cores that come in it or are
-- sent are known
pub record IsAssumed (Known : Core → Type 0) (w : World) (h : Happening) : Type 0 where
  pub read : IsReadIn w.sizes h.0
  forgery : NoForgeryIn w h.0
  come : (f : Frame) → Among f (brought w h.0) → (c : Core) → CoreOf c f → IsCore w.sizes c → Known c
  sent : SentKnown Known (happens w h)

-- of each event
abbrev pub AssumedAlong : (Core → Type 0) → World → List Happening → Type 0
AssumedAlong Known w [] = ⊤
AssumedAlong Known w (h ∷ hs) = IsAssumed Known w h × AssumedAlong Known (happens w h) hs

-- what was sent stays in the record
sent-stays : (w : World) (hs : List Happening) (s : Sent) → Among s w.sent → Among s (after w hs).sent
unfolding after happens
sent-stays w [] s m = m
sent-stays w (h ∷ hs) s m = sent-stays (happens w h) hs s (Among-before s w.sent _ m)

-- the premises, event by event
pub assumed-along : (Known : Core → Type 0) (sizes : Sizes) (w : World) (hs : List Happening) → w.sizes ≡ sizes
    → AllRead sizes hs → NoForgery w hs
    → ((c : Core) → CoreBrought c w hs → IsCore sizes c → Known c)
    → ((s : Sent) → Among s (after w hs).sent → (x : Core) → CoreOf x s.frame → IsCore sizes x
    → Known x) → AssumedAlong Known w hs
unfolding after happens
assumed-along Known sizes w [] e rd n come sent = tt
assumed-along Known sizes w (h ∷ hs) e rd n come sent = (
  record {
    read = subst (λ (z : Sizes). IsReadIn z h.0) (sym e) rd.0;
    forgery = n.0;
    come = λ f b c o k. come c (inl (f, b, o)) (subst (λ (z : Sizes). IsCore z c) e k);
    sent = λ s m x o k. sent s (sent-stays (happens w h) hs s m) x o (subst (λ (z : Sizes). IsCore z x) e k);
  },
  assumed-along Known sizes (happens w h) hs e rd.1 n.1 (λ c o. come c (inr o)) sent,
)

-- an event is honest where each frame that was sent is one
honest-now : (Known : Core → Type 0) (w : World) (h : Happening) → IsAssumed Known w h → SentAreFrames w
    → ((p : ℕ) → is_member w p ≡ true → AreStored (self_of w p) (chronicles w p)) → IsHonest Known w h.0
honest-now Known w h a sent stored =
    let framed : ComesFramed w h.0 = comes-framed w h.0 a.read sent in
    record {
      framed = framed;
      forgery = a.forgery;
      cores = λ f b c o. a.come f b c o (core-frame w.sizes f c (framed f b) o);
      written = sent;
      stored = stored;
    }

-- ---- from the beginning to the end

-- the world at its start
new-framed : (Known : Core → Type 0) (sizes : Sizes) (is_faulty : ℕ → Bool) (ring : ℕ → Keyring)
    → IsFramed Known (new_world sizes is_faulty ring)
unfolding new_world leaf proposed
new-framed Known sizes is_faulty ring = record {
  stored = λ p m. tt;
  leaves = λ p m u. record { known = tt; proposal = λ j e. absurd (none j e) };
  sent = λ s m. absurd m;
}
  where
    none : (j : Justified) → None ≡ Some j → ⊥
    none j e = cc

-- what is kept by each event
pub record IsWell (Known : Core → Type 0) (w : World) : Type 0 where
  pub good : IsGood Known w
  pub account : IsAccount w
  pub framed : IsFramed Known w

module _ (Known : Core → Type 0) (apart : NoCollision Known) (genesis : Known genesis_core) where
  -- one event
  pub well-happens : (w : World) (h : Happening) → IsWell Known w → IsAssumed Known w h → refusal w h.0 ≡ None
      → IsWell Known (happens w h)
  unfolding happens
  well-happens w h g a ok =
      let honest : IsHonest Known w h.0 = honest-now Known w h a g.framed.sent g.framed.stored in
      record {
        good = good-happens Known apart genesis ground w h g.good honest ok;
        account = account-happens Known w h.0 h.1 g.good honest ok g.account;
        framed = happens-framed Known apart genesis w h.0 h.1 g.good g.account honest g.framed ok a.sent;
      }

  -- a whole run
  well-run : (hs : List Happening) (w last : World) → IsWell Known w → AssumedAlong Known w hs
      → run w hs ≡ Ok last → IsWell Known last
  unfolding run
  well-run [] w last g a e = let k : w ≡ last = cc in subst (IsWell Known) k g
  well-run (h ∷ hs) w last g a e =
      let r = run-step (refusal w h.0) (run (happens w h) hs) last e in
      well-run hs (happens w h) last (well-happens w h g a.0 r.0) a.1 r.1

-- the cores of a run that a frame may have, and genesis's
unfoldable pub KnownIn : (sizes : Sizes) (w : World) (hs : List Happening) → Core → Type 0
KnownIn sizes w hs c = CoreOfRun w hs c × IsCoreOrGenesis sizes c

-- its sizes
pub new-sizes : (sizes : Sizes) (is_faulty : ℕ → Bool) (ring : ℕ → Keyring)
    → (new_world sizes is_faulty ring).sizes ≡ sizes
unfolding new_world
new-sizes sizes is_faulty ring = refl

-- what is known of the world at its start
pub new-well : (sizes : Sizes) (is_faulty : ℕ → Bool) (ring : ℕ → Keyring) (hs : List Happening)
    → ArePremises (new_world sizes is_faulty ring) hs
    → IsWell (KnownIn sizes (new_world sizes is_faulty ring) hs) (new_world sizes is_faulty ring)
unfolding KnownIn new_world
new-well sizes is_faulty ring hs met = record {
  good = new-good _ sizes is_faulty ring (met.keys, correct-quorum sizes is_faulty met.few) (λ c k. k.1);
  account = new-account sizes is_faulty ring;
  framed = new-framed _ sizes is_faulty ring;
}

-- no two known cores have one digest, and genesis's is known
pub known-apart : (sizes : Sizes) (w : World) (hs : List Happening) → ArePremises w hs
    → NoCollision (KnownIn sizes w hs)
unfolding KnownIn
known-apart sizes w hs met = λ a b ka kb. met.no_collision a b ka.0 kb.0

pub known-genesis : (sizes : Sizes) (w : World) (hs : List Happening) → KnownIn sizes w hs genesis_core
unfolding KnownIn
known-genesis sizes w hs = (inl refl, inl refl)

-- what is assumed along such a run
pub known-along : (sizes : Sizes) (w : World) (hs : List Happening) → w.sizes ≡ sizes → ArePremises w hs
    → AssumedAlong (KnownIn sizes w hs) w hs
unfolding KnownIn
known-along sizes w hs e met =
    assumed-along _ sizes w hs e (subst (λ (z : Sizes). AllRead z hs) e met.read) met.no_forgery
    (λ c b k. (inr (inr b), inr k)) (λ s m x o k. (inr (inl (s, m, o)), inr k))

-- what a run whose premises hold comes to
run-is-well :
    (sizes : Sizes) (is_faulty : ℕ → Bool) (ring : ℕ → Keyring) (hs : List Happening) (last : World)
    → ArePremises (new_world sizes is_faulty ring) hs → run (new_world sizes is_faulty ring) hs ≡ Ok last
    → IsWell (KnownIn sizes (new_world sizes is_faulty ring) hs) last
run-is-well sizes is_faulty ring hs last met e =
    let w : World = new_world sizes is_faulty ring in
    well-run (KnownIn sizes w hs) (known-apart sizes w hs met) (known-genesis sizes w hs) hs w last
    (new-well sizes is_faulty ring hs met) (known-along sizes w hs (new-sizes sizes is_faulty ring) met) e

-- ---- the laws

-- every run is linear
pub every-run-linear : EveryRunIsLinear
every-run-linear sizes is_faulty ring hs last met e =
    let r = run-is-well sizes is_faulty ring hs last met e in linear _ last r.good r.account

-- the correct replicas' chronicles are lawful
pub chronicles-lawful : ChroniclesAreLawful
chronicles-lawful sizes is_faulty ring hs last met e =
    let r = run-is-well sizes is_faulty ring hs last met e in λ i c. (r.good.run.row.sound i c).lawful

-- and an orderly family
pub chronicles-family : ChroniclesAreAFamily
chronicles-family sizes is_faulty ring hs last met e =
    let r = (run-is-well sizes is_faulty ring hs last met e).good in
    record {
      enough = r.made.enough;
      lawful = λ i c. (r.run.row.sound i c).lawful;
      orderly = r.run.row.orderly;
    }

-- no event of a run is answered with a conflict
pub none-conflicts : NoEventConflicts
none-conflicts sizes is_faulty ring hs last met e =
    (run-is-well sizes is_faulty ring hs last met e).good.answers

-- each frame that was sent is one that is written
pub sent-are-frames : SentFramesAreFrames
sent-are-frames sizes is_faulty ring hs last met e =
    (run-is-well sizes is_faulty ring hs last met e).framed.sent

-- and its bytes are read as it
pub sent-are-read : SentFramesAreRead
sent-are-read sizes is_faulty ring hs last met e are s read m rd =
    let k = sent-are-frames sizes is_faulty ring hs last met e s m in
    IsReadAs-unique last.sizes are (spelling s.frame) read (Some s.frame) rd (k.0, inr (k.1, refl))

-- the certificates of each correct replica
pub made-are-certificates : MadeCertificatesAreCertificates
made-are-certificates sizes is_faulty ring hs last met e =
    let r = run-is-well sizes is_faulty ring hs last met e in
    λ i c. has-certificates (self_of last i) (chronicles last i) (r.framed.stored i c)
