-- Locks of correct replicas, what they stand on, and their highest certificates.
use Rattle.std.specs.Prelude.{ℕ, ◌≡◌, ◌<◌, ◌≤◌, ◌⊎◌, true, List, [], ◌∷◌}
use Rattle.std.specs.Prelude.{length, Ok}
use Rattle.definitions.specs.Lists.{Among}
use Rattle.definitions.specs.Agreement.{MayBeCertified}
use Rattle.definitions.specs.Branches.{Branch, just1, Extends}
use Rattle.definitions.specs.Chronicles.{Admitted, voted_blocks, taken_blocks, tree, window, vheight}
use Rattle.definitions.specs.Chronicles.{is_safe}
use Rattle.definitions.specs.Digests.{digest_of}
use Rattle.definitions.specs.Grounds.{may_lead_from}
use Rattle.definitions.specs.Replicas.{Standing.running}
use Rattle.definitions.specs.Runs.{run, after}
use Rattle.definitions.specs.States.{qc_high, leaf, pending}
use Rattle.definitions.specs.Worlds.{World, Event.lead, Happening, is_correct, self_of}
use Rattle.linear_law.specs.Law.{AfterEachRun, correct_family}
use Rattle.recovery.specs.Correct.{OfCorrect, chronicle_of, lock_of, correct_with}
use Rattle.recovery.specs.Correct.{correct_replicas, amply}
use Rattle.recovery.specs.Healing.{highest_voted}
use Rattle.recovery.specs.NeverWedged.{AheadOf, healer, ground_of, NobodyPruned}

-- ---- locks

-- Each correct replica's lock is this block, or lower. So any block that justifies it is safe for each, above what that one
-- voted for.
pub record IsSafeForAll (w : World) (m : Branch) : Type 0 where
  pub locks : OfCorrect w (λ r. (lock_of w r ≡ m) ⊎ (length (lock_of w r) < length m))
  pub votes : OfCorrect w (λ r. (x : Branch) → just1 x ≡ m → vheight (chronicle_of w r) < length x
      → is_safe x (chronicle_of w r) ≡ true)

-- who leads a healing is correct, and its lock is safe for all
abbrev pub HighestLocksAreSafe : Type 0
HighestLocksAreSafe =
    AfterEachRun (λ w. (is_correct w (healer w) ≡ true) × IsSafeForAll w (lock_of w (healer w)))

-- a correct replica that took any block may lead from its lock
abbrev pub LocksMayBeLedFrom : Type 0
LocksMayBeLedFrom =
    AfterEachRun (λ w. OfCorrect w (λ r. (taken_blocks (chronicle_of w r) ≡ [] → ⊥)
    → may_lead_from (self_of w r) (lock_of w r) (chronicle_of w r) ≡ true))

-- a replica is told to lead from its lock
abbrev pub lead_events : ℕ → World → List Happening
lead_events l w = amply (lead l (digest_of (lock_of w l)) ∷ [])

-- It leads from there: its leaf, and the block of its highest certificate, are this one, and no request waits with it.
pub record LeadsFrom (w last : World) (l : ℕ) (m : Branch) : Type 0 where
  pub ran : run w (lead_events l w) ≡ Ok last
  pub goes_on : (last.replica l).standing ≡ running
  pub leaf_is : leaf (self_of w l) (chronicle_of last l) ≡ m
  pub high : (qc_high w.sizes (chronicle_of last l)).block ≡ m
  pub none_waits : pending (chronicle_of last l) ≡ []
  pub taken : taken_blocks (chronicle_of last l) ≡ taken_blocks (chronicle_of w l)
  pub voted : voted_blocks (chronicle_of last l) ≡ voted_blocks (chronicle_of w l)
  pub others : (j : ℕ) → (j ≡ l → ⊥) → last.replica j ≡ w.replica j

-- so does a correct replica that goes on and took any block
abbrev pub LeadsBegin : Type 0
LeadsBegin =
    (l : ℕ) → AheadOf (lead_events l) (λ w. is_correct w l ≡ true → (w.replica l).standing ≡ running
    → (taken_blocks (chronicle_of w l) ≡ [] → ⊥) → LeadsFrom w (after w (lead_events l w)) l (lock_of w l))

-- ---- what a lock stands on

-- more than f correct replicas took this block and each one below it
abbrev pub IsHeld : World → Branch → Type 0
IsHeld w b = (x : Branch) → Extends b x → w.sizes.faults < correct_with w tree x

-- so is what each block justifies that a correct replica took
abbrev pub JustifiedBlocksAreHeld : Type 0
JustifiedBlocksAreHeld =
    AfterEachRun (λ w. OfCorrect w (λ r. (a : Admitted) → Among a (taken_blocks (chronicle_of w r))
    → IsHeld w (just1 a.branch)))

-- What a healing brings to all justifies the lock from which it leads. More than f correct replicas took it, and
-- still have it where nobody pruned.
pub record IsGround (w : World) (b : Branch) : Type 0 where
  pub over : just1 b ≡ lock_of w (healer w)
  pub own : Among b (tree (chronicle_of w (healer w)))
  pub held : IsHeld w b
  pub kept : NobodyPruned w → (x : Branch) → Extends b x → w.sizes.faults < correct_with w window x

-- so it is after each run
abbrev pub GroundsAreHeld : Type 0
GroundsAreHeld = AfterEachRun (λ w. IsGround w (ground_of w))

-- ---- highest certificates

-- what a correct replica's highest certificate is for
abbrev pub high_of : World → ℕ → Branch
high_of w r = (qc_high w.sizes (chronicle_of w r)).block

-- It is genesis, or a quorum may have voted for it. So it is no higher than what some correct replica voted for.
abbrev pub HighestAreCertified : Type 0
HighestAreCertified =
    AfterEachRun (λ w. OfCorrect w (λ r.
    ((high_of w r ≡ []) ⊎ MayBeCertified (correct_family w) (high_of w r))
    × (length (high_of w r) ≤ highest_voted w (correct_replicas w))))
