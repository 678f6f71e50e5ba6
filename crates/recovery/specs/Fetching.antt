-- Correct replicas get blocks by asking for them.
use Rattle.ids.specs.declared.limits.TheConstants.{MOST_BLOCKS, MOST_OF_HEIGHT, HEIGHT_LIMIT}
use Rattle.ids.specs.declared.limits.TheConstants.{BELOW_HORIZON}
use Rattle.std.specs.Prelude.{ℕ, suc, ◌≡◌, ◌==◌, ◌<◌, ◌≤◌, ◌+◌, ◌⊎◌, true, false, List, ◌∷◌, ◌-◌}
use Rattle.std.specs.Prelude.{map, length, count_by, Ok}
use Rattle.std.specs.List.{AllByRecursion}
use Rattle.definitions.specs.Lists.{Among, AreDistinct}
use Rattle.definitions.specs.Admission.{Checked, passes, check_gathered}
use Rattle.definitions.specs.Branches.{Block, Branch, IsBranch, Extends}
use Rattle.definitions.specs.Checks.{Identity}
use Rattle.definitions.specs.Chronicles.{Admitted, Chronicle, voted_blocks, taken_blocks, tree, window}
use Rattle.definitions.specs.Chronicles.{Step.took_block, horizon, executed}
use Rattle.definitions.specs.Digests.{digest_of}
use Rattle.definitions.specs.Rulings.{Input, ruling, due}
use Rattle.definitions.specs.Runs.{run, after}
use Rattle.definitions.specs.Sendings.{block_frame}
use Rattle.definitions.specs.States.{view}
use Rattle.definitions.specs.Worlds.{World, is_correct, self_of}
use Rattle.linear_law.specs.Law.{AfterEachRun}
use Rattle.recovery.specs.Correct.{OfCorrect, AllGoOn, ShareKeys, chronicle_of, correct_with}
use Rattle.recovery.specs.Healing.{fetch_block, fetch_all, lowest_first}
use Rattle.recovery.specs.NeverWedged.{AheadOf}
use Rattle.recovery.specs.Views.{OnlyViewMoved}

-- There is a place for this block over this parent: the parent stands in the tree, the block justifies one below
-- itself that isn't pruned, and no limit is reached.
pub record HasPlace (c : Chronicle) (b : Block) (parent : Branch) : Type 0 where
  pub stands : Among parent (window c)
  pub below : b.justify < suc (length parent)
  pub reach : horizon c ≤ b.justify
  pub room : length (window c) < MOST_BLOCKS
  pub uncrowded : count_by (λ x. length x == suc (length parent)) (window c) < MOST_OF_HEIGHT
  pub low : suc (length parent) < HEIGHT_LIMIT

-- a correct replica, and the block as it took it
abbrev pub IsHolder : World → Branch → ℕ × Admitted → Type 0
IsHolder w x h =
    (is_correct w h.0 ≡ true) × Among h.1 (taken_blocks (chronicle_of w h.0)) × (h.1.branch ≡ x)

-- what was checked passes, and comes to a step by which the replica takes this block
abbrev pub IsTaken : World → ℕ → Checked → Branch → Type 0
IsTaken w u checked x =
    (i : Input) × (a : Admitted) × (checked ≡ passes i)
    × (ruling (self_of w u) i (chronicle_of w u) ≡ due (took_block a)) × (a.branch ≡ x)

-- A correct replica takes a block of which it gathers the copies of more than f correct ones, whatever their
-- certificates, where there is a place for it.
abbrev pub CopiesAreTaken : Type 0
CopiesAreTaken =
    AfterEachRun (λ w. ShareKeys w → OfCorrect w (λ u. (b : Block) (parent : Branch) (holders : List (ℕ × Admitted))
    → HasPlace (chronicle_of w u) b parent → AreDistinct (map (λ h. h.0) holders)
    → AllByRecursion (IsHolder w (b ∷ parent)) holders → w.sizes.faults < length holders
    → IsTaken w u
    (check_gathered (self_of w u) (map (λ h. block_frame (self_of w h.0) u h.1) holders)) (b ∷ parent)))

-- a replica is as it was, also in its view
abbrev pub OnlyAsked : Identity → Chronicle → Chronicle → Type 0
OnlyAsked self before now =
    OnlyViewMoved self before now × (view self.sizes now ≡ view self.sizes before)

-- a replica was only asked, and then took this block, without a vote
pub record OnlyTook (self : Identity) (x : Branch) (before now : Chronicle) : Type 0 where
  pub asked : Chronicle
  pub only : OnlyAsked self before asked
  pub taken : Admitted
  pub is : now ≡ took_block taken ∷ asked
  pub block_is : taken.branch ≡ x
  pub no_vote : taken.voted ≡ false
  pub new_or_there : (taken.new ≡ true) ⊎ ((taken.new ≡ false) × Among x (window asked))

-- A replica fetched a block: the run names only what is there, all go on, the block stands with it, and the others were
-- only asked.
pub record IsFetched (w last : World) (u : ℕ) (x : Branch) : Type 0 where
  pub ran : run w (fetch_block (digest_of x) u w) ≡ Ok last
  pub going_on : AllGoOn last
  pub stands : Among x (window (chronicle_of last u))
  pub own : OnlyTook (self_of w u) x (chronicle_of w u) (chronicle_of last u)
  pub others : OfCorrect w (λ r. (r ≡ u → ⊥) → OnlyAsked (self_of w r) (chronicle_of w r) (chronicle_of last r))
  pub session : last.session ≡ w.session

-- What is known where a correct replica fetches a block: it lacks it, and has a place for it, and more than f correct
-- replicas have it.
pub record MayFetch (w : World) (u : ℕ) (b : Block) (parent : Branch) : Type 0 where
  pub keys : ShareKeys w
  pub goes : AllGoOn w
  pub correct : is_correct w u ≡ true
  pub place : HasPlace (chronicle_of w u) b parent
  pub lacks : Among (b ∷ parent) (window (chronicle_of w u)) → ⊥
  pub many : w.sizes.faults < correct_with w window (b ∷ parent)

-- it gets the block by asking
abbrev pub MissingBlocksAreFetched : Type 0
MissingBlocksAreFetched =
    (u : ℕ) (b : Block) (parent : Branch) → AheadOf (fetch_block (digest_of (b ∷ parent)) u) (λ w.
    MayFetch w u b parent → IsFetched w (after w (fetch_block (digest_of (b ∷ parent)) u w)) u (b ∷ parent))

-- A replica gained blocks of this branch alone, no more than lie above what it had executed, and one of a height at most. Its
-- view, its votes and its horizon are as they were, and it lost no block.
pub record OnlyGained (self : Identity) (x : Branch) (before now : Chronicle) : Type 0 where
  pub in_view : view self.sizes now ≡ view self.sizes before
  pub voted : voted_blocks now ≡ voted_blocks before
  pub forgotten : horizon now ≡ horizon before
  pub kept : (y : Branch) → Among y (window before) → Among y (window now)
  pub taken : (a : Admitted) → Among a (taken_blocks now) → Among a (taken_blocks before) ⊎ Extends x a.branch
  pub longer : length (window now) ≤ length (window before) + (length x - length (executed before))
  pub heights : (h : ℕ)
      → count_by (λ y. length y == h) (window now) ≤ suc (count_by (λ y. length y == h) (window before))

-- a block of this height is in reach of a replica: it lies above all that is pruned there
abbrev pub IsInReach : Chronicle → Branch → Type 0
IsInReach c x = horizon c ≤ length x + BELOW_HORIZON

-- A replica can get this block over this parent by asking: it is above all that the replica executed, what it justifies
-- isn't pruned there, nor its height crowded; and more than f correct replicas have it.
pub record CanGet (w : World) (c : Chronicle) (b : Block) (parent : Branch) : Type 0 where
  pub above : length (executed c) ≤ length parent
  pub reach : horizon c ≤ b.justify
  pub uncrowded : count_by (λ x. length x == suc (length parent)) (window c) < MOST_OF_HEIGHT
  pub many : w.sizes.faults < correct_with w window (b ∷ parent)

-- What is assumed where a branch is brought to all: a correct replica took it, each has a block of it that is in its
-- reach, or can get it, and there is room for so many with each.
pub record MayBring (w : World) (x : Branch) : Type 0 where
  pub keys : ShareKeys w
  pub goes : AllGoOn w
  pub branch : IsBranch x
  pub taken : (r : ℕ) × (is_correct w r ≡ true) × Among x (tree (chronicle_of w r))
  pub each : OfCorrect w (λ r. (b : Block) (parent : Branch) → Extends x (b ∷ parent)
      → IsInReach (chronicle_of w r) (b ∷ parent)
      → Among (b ∷ parent) (window (chronicle_of w r)) ⊎ CanGet w (chronicle_of w r) b parent)
  pub trees : OfCorrect w (λ r.
      length (window (chronicle_of w r)) + (length x - length (executed (chronicle_of w r))) ≤ MOST_BLOCKS)
  pub low : length x < HEIGHT_LIMIT

-- a replica has each block of this branch that is in its reach
abbrev pub HasReached : Chronicle → Branch → Type 0
HasReached c x = (y : Branch) → Extends x y → IsInReach c y → Among y (window c)

-- The run names only what is there, and all correct replicas go on. Each has the branch, as far as it is in its reach,
-- and gained nothing else; who had it was only asked.
pub record IsBrought (w last : World) (x : Branch) : Type 0 where
  pub ran : run w (fetch_all (lowest_first x) w) ≡ Ok last
  pub going_on : AllGoOn last
  pub stands : OfCorrect last (λ r. HasReached (chronicle_of last r) x)
  pub gained : OfCorrect w (λ r. OnlyGained (self_of w r) x (chronicle_of w r) (chronicle_of last r))
  pub had : OfCorrect w (λ r. HasReached (chronicle_of w r) x
      → OnlyAsked (self_of w r) (chronicle_of w r) (chronicle_of last r))
  pub session : last.session ≡ w.session

-- so a branch comes to all
abbrev pub BranchesAreBrought : Type 0
BranchesAreBrought =
    (x : Branch) → AheadOf (fetch_all (lowest_first x)) (λ w. MayBring w x
    → IsBrought w (after w (fetch_all (lowest_first x) w)) x)
