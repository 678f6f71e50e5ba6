-- What holds of each world of a run whose premises hold, for the laws of one event.
use Rattle.std.proofs.Common.{ℕ, ◌≡◌, true, List, [], ◌∷◌, refl, sym, ap, subst, ◌∙◌, inl, inr, Ok, arith}
use Rattle.ids.specs.Sizes.{Sizes}
use Rattle.std.proofs.Common.{Bool}
use Rattle.definitions.specs.Lists.{Among}
use Rattle.definitions.specs.Branches.{Branch}
use Rattle.definitions.specs.Chronicles.{IsSound, tree, voted_blocks}
use Rattle.definitions.specs.Digests.{NoCollision, AllKnown, digest_of}
use Rattle.definitions.specs.Frames.{Core, genesis_core}
use Rattle.definitions.specs.Keyrings.{Keyring}
use Rattle.definitions.specs.Worlds.{World, Sent, Happening, is_correct, self_of, new_world}
use Rattle.definitions.specs.Runs.{refusal, run, after}
use Rattle.definitions.specs.Events.{happens}
use Rattle.definitions.specs.Premises.{ArePremises, CoreOf}
use Rattle.definitions.proofs.Digests.{digest_of-one}
use Rattle.definitions.specs.FrameLimits.{IsCore}
use Rattle.linear_law.proofs.Fits.{core-frame}
use Rattle.definitions.specs.Agreement.{IsLawfulFamily}
use Rattle.linear_law.specs.Law.{correct_family}
use Rattle.linear_law.proofs.Linear.{ground, run-step}
use Rattle.linear_law.proofs.StoredFrames.{AreStored}
use Rattle.linear_law.proofs.WholeRuns.{IsWell, AssumedAlong, comes-framed, well-happens, KnownIn, new-sizes}
use Rattle.linear_law.proofs.WholeRuns.{new-well}
use Rattle.linear_law.proofs.WholeRuns.{known-apart, known-genesis, known-along}
use Rattle.recovery.specs.Correct.{chronicle_of}
use Rattle.recovery.proofs.Worlds.{made-after}
use Rattle.recovery.proofs.Ruled.{AllRuled, happens-ruled}
use Rattle.definitions.specs.States.{leaf}
use Rattle.recovery.proofs.Firsts.{AllFirst, happens-first}
use Rattle.recovery.proofs.SentRequests.{AreOwn, happens-own}
use Rattle.recovery.proofs.SentVotes.{VotesSent, happens-votes}
use Rattle.recovery.proofs.Tallies.{HaveFew, happens-few}
use Rattle.recovery.proofs.Waiting.{HaveAsked, happens-asked}
use Rattle.std.proofs.Common.{true≢false}

-- a world of a run, among known cores that don't collide
pub record IsReached (Known : Core → Type 0) (w : World) : Type 0 where
  pub apart : NoCollision Known
  pub genesis : Known genesis_core
  pub well : IsWell Known w
  -- each step of a correct replica was due
  pub ruled : AllRuled w
  -- each request that a client sent is its own
  pub requests : AreOwn w w.sent
  -- who waits wasn't told enough
  pub tallies : HaveFew w
  -- who waits sent its request
  pub asked : HaveAsked w
  -- who never took a block stands on genesis, or on its own proposal on it
  pub firsts : AllFirst Known apart genesis w
  -- the cores of what was sent are known
  pub sent : (s : Sent) → Among s w.sent → (x : Core) → CoreOf x s.frame → Known x

-- what is kept along a run
pub record IsKeptWell (Known : Core → Type 0) (apart : NoCollision Known) (genesis : Known genesis_core)
    (w : World) : Type 0
  where
    pub well : IsWell Known w
    pub ruled : AllRuled w
    pub votes : VotesSent w
    pub requests : AreOwn w w.sent
    pub tallies : HaveFew w
    pub asked : HaveAsked w
    pub firsts : AllFirst Known apart genesis w

pub well-run : (Known : Core → Type 0) (apart : NoCollision Known) (genesis : Known genesis_core) (hs : List Happening)
    (w last : World) → IsKeptWell Known apart genesis w → AssumedAlong Known w hs → run w hs ≡ Ok last
    → IsKeptWell Known apart genesis last
unfolding run
well-run Known apart genesis [] w last g a e = let k : w ≡ last = cc in subst (IsKeptWell Known apart genesis) k g
well-run Known apart genesis (h ∷ hs) w last g a e =
    let r = run-step (refusal w h.0) (run (happens w h) hs) last e in
    let framed = comes-framed w h.0 a.0.read g.well.framed.sent in
    let well = well-happens Known apart genesis w h g.well a.0 r.0 in
    well-run Known apart genesis hs (happens w h) last (record {
      well = well;
      ruled = happens-ruled Known w h g.well framed r.0 g.ruled;
      votes = happens-votes Known w h g.well framed r.0 g.votes;
      requests = happens-own Known w h g.well framed r.0 g.requests;
      tallies = happens-few w h framed r.0 g.tallies;
      asked = happens-asked w h framed r.0 g.asked;
      firsts = happens-first Known apart genesis w h g.well well framed r.0 g.firsts;
    }) a.1 r.1

pub new-ruled : (sizes : Sizes) (is_faulty : ℕ → Bool) (ring : ℕ → Keyring) → AllRuled (new_world sizes is_faulty ring)
unfolding new_world
new-ruled sizes is_faulty ring = λ r c. tt

pub new-votes : (sizes : Sizes) (is_faulty : ℕ → Bool) (ring : ℕ → Keyring)
    → VotesSent (new_world sizes is_faulty ring)
unfolding new_world voted_blocks
new-votes sizes is_faulty ring = λ r c s x m. absurd m

pub new-own : (sizes : Sizes) (is_faulty : ℕ → Bool) (ring : ℕ → Keyring)
    → AreOwn (new_world sizes is_faulty ring) (new_world sizes is_faulty ring).sent
unfolding new_world
new-own sizes is_faulty ring = λ s m. absurd m

pub new-few : (sizes : Sizes) (is_faulty : ℕ → Bool) (ring : ℕ → Keyring) → HaveFew (new_world sizes is_faulty ring)
unfolding new_world
new-few sizes is_faulty ring = λ cl w place text. omega arith

pub new-asked : (sizes : Sizes) (is_faulty : ℕ → Bool) (ring : ℕ → Keyring)
    → HaveAsked (new_world sizes is_faulty ring)
unfolding new_world
new-asked sizes is_faulty ring = λ cl w. absurd (true≢false (sym w))

pub new-firsts : (Known : Core → Type 0) (apart : NoCollision Known) (genesis : Known genesis_core) (sizes : Sizes)
    (is_faulty : ℕ → Bool) (ring : ℕ → Keyring) → AllFirst Known apart genesis (new_world sizes is_faulty ring)
unfolding new_world leaf
new-firsts Known apart genesis sizes is_faulty ring = λ r c s none. inl refl

-- a run ends in the world after it
pub run-after : (hs : List Happening) (w last : World) → run w hs ≡ Ok last → after w hs ≡ last
unfolding run after
run-after [] w last e = let k : w ≡ last = cc in k
run-after (h ∷ hs) w last e =
    let r = run-step (refusal w h.0) (run (happens w h) hs) last e in run-after hs (happens w h) last r.1

-- the cores of what was sent in a run are among those of the run
sent-known : (sizes : Sizes) (w : World) (hs : List Happening) (last : World) → after w hs ≡ last
    → IsWell (KnownIn sizes w hs) last → (s : Sent) → Among s last.sent → (x : Core) → CoreOf x s.frame
    → last.sizes ≡ sizes → KnownIn sizes w hs x
unfolding KnownIn
sent-known sizes w hs last e well s m x o z = (
  inr (inl (s, subst (λ (y : World). Among s y.sent) (sym e) m, o)),
  inr (subst (λ (y : Sizes). IsCore y x) z (core-frame last.sizes s.frame x (well.framed.sent s m).0 o)),
)

-- so is the last one
pub reached :
    (sizes : Sizes) (is_faulty : ℕ → Bool) (ring : ℕ → Keyring) (hs : List Happening) (last : World)
    → ArePremises (new_world sizes is_faulty ring) hs → run (new_world sizes is_faulty ring) hs ≡ Ok last
    → IsReached (KnownIn sizes (new_world sizes is_faulty ring) hs) last
reached sizes is_faulty ring hs last met e =
    let w : World = new_world sizes is_faulty ring in
    let apart = known-apart sizes w hs met in
    let genesis = known-genesis sizes w hs in
    let kept = well-run (KnownIn sizes w hs) apart genesis hs w last
    (record {
      well = new-well sizes is_faulty ring hs met;
      ruled = new-ruled sizes is_faulty ring;
      votes = new-votes sizes is_faulty ring;
      requests = new-own sizes is_faulty ring;
      tallies = new-few sizes is_faulty ring;
      asked = new-asked sizes is_faulty ring;
      firsts = new-firsts (KnownIn sizes w hs) apart genesis sizes is_faulty ring;
    })
    (known-along sizes w hs (new-sizes sizes is_faulty ring) met) e in
    let end = run-after hs w last e in
    record {
      apart = apart;
      genesis = genesis;
      well = kept.well;
      ruled = kept.ruled;
      requests = kept.requests;
      tallies = kept.tallies;
      asked = kept.asked;
      firsts = kept.firsts;
      sent = λ s m x o. sent-known sizes w hs last end kept.well s m x o
          (ap (λ (y : World). y.sizes) (sym end) ∙ ((made-after w hs).sizes ∙ new-sizes sizes is_faulty ring));
    }

-- from here on: such a world
module _ (Known : Core → Type 0) (w : World) (g : IsReached Known w) where
  -- a correct replica's chronicle is kept well
  pub sound-of : (r : ℕ) → is_correct w r ≡ true → IsSound w.sizes (chronicle_of w r)
  sound-of r c = g.well.good.run.row.sound r c

  -- the cores of each block that it took are known
  pub known-of : (r : ℕ) → is_correct w r ≡ true → (x : Branch) → Among x (tree (chronicle_of w r))
      → AllKnown Known x
  known-of r c x m = g.well.good.run.row.known r c x m

  pub stored-of : (r : ℕ) → is_correct w r ≡ true → AreStored (self_of w r) (chronicle_of w r)
  stored-of r c = g.well.framed.stored r c

  -- known branches of one digest are one
  pub one-branch : (x y : Branch) → AllKnown Known x → AllKnown Known y → digest_of x ≡ digest_of y → x ≡ y
  one-branch x y kx ky e = digest_of-one Known g.apart g.genesis ground x y kx ky e

  -- the correct replicas are a lawful family
  pub family-of : IsLawfulFamily (correct_family w)
  family-of = record {
    enough = g.well.good.made.enough;
    lawful = λ i c. (sound-of i c).lawful;
    orderly = g.well.good.run.row.orderly;
  }
