-- The chronicle of a replica: the steps that stand, newest first. Here is what it says of blocks: votes,
-- lock, decisions, and its law (HotStuff, PODC 2019, the safety rules, with this project's clear blocks).
use Rattle.ids.specs.declared.limits.TheConstants.{MOST_BLOCKS, HEIGHT_LIMIT}
use Rattle.std.specs.Prelude.{ℕ, suc, ◌≡◌, ◌<◌, ◌≤◌, ◌==◌, ◌⊎◌, ◌&&◌, ◌||◌, not, Bool, true, false, List, []}
use Rattle.std.specs.Prelude.{◌∷◌, ◌++◌, map, length, if◌then◌else◌, nat_lt, max, min, Option, ⊤}
use Rattle.std.specs.List.{AllByRecursion}
use Rattle.definitions.specs.Lists.{Among, AreDistinct, greatest}
use Rattle.definitions.specs.Frames.{Command, Core, Certificate}
use Rattle.definitions.specs.Branches.{Block, Branch, justify_height, just1, just2, just3, Extends, extends}
use Rattle.definitions.specs.Branches.{highest}
use Rattle.definitions.specs.Bytes.{Bytes}
use Rattle.definitions.specs.Trees.{Stored, blocks, standing, IsTree}
use Rattle.ids.specs.Sizes.{Sizes, replicas, quorum}
use Rattle.definitions.specs.Histories.{History, history_of}

-- A block that was admitted, by a proposal or on its own.
pub record Admitted : Type 0 where
  pub branch : Branch
  pub core : Core  -- as it came
  pub certificate : Certificate
  pub counted : List ℕ  -- the voters whose tags for this replica verified
  pub senders : List ℕ  -- the replicas that sent this very block, where it was taken for their number
  pub clear : Bool  -- so did the tag of each command
  pub new : Bool  -- it was not in the tree before
  pub voted : Bool

-- what a replica took in beside blocks
pub data Note : Type 0 where
  got_vote : (voter : ℕ) → (vector : Bytes) → (block : Branch) → Note
  got_new_view : (view sender : ℕ) → (certificate : Certificate) → (block : Branch) → Note
  got_request : Command → Note
  -- with the block of its digest, where it was in the tree
  got_fetch : (sender : ℕ) → (block : Option Branch) → Note
  timed_out : Note
  beat : Note
  pruned : (height : ℕ) → Note
  -- of an announcement whose certificate isn't good for this replica
  seen_view : (view sender : ℕ) → Note
  -- what it leads from in place of its highest certificate's block
  led_from : (block : Branch) → Note

-- what a replica took in and stored
pub data Step : Type 0 where
  took_block : Admitted → Step
  noted : Note → Step

-- the steps of one replica
abbrev pub Chronicle : Type 0
Chronicle = List Step

-- ---- what stands there of blocks

-- the blocks that it voted for
unfoldable pub voted_blocks : Chronicle → List Branch
voted_blocks [] = []
voted_blocks (took_block a ∷ earlier) =
    if a.voted then a.branch ∷ voted_blocks earlier else voted_blocks earlier
voted_blocks (s ∷ earlier) = voted_blocks earlier

-- the blocks that weren't in the tree before
unfoldable pub taken_blocks : Chronicle → List Admitted
taken_blocks [] = []
taken_blocks (took_block a ∷ earlier) = if a.new then a ∷ taken_blocks earlier else taken_blocks earlier
taken_blocks (s ∷ earlier) = taken_blocks earlier

-- a taken block as it stands in the tree
abbrev pub stored_block : Admitted → Stored
stored_block a = record { branch = a.branch; certificate = a.certificate; clear = a.clear }

-- what stood in the tree at any time
unfoldable pub stored_blocks : Chronicle → List Stored
stored_blocks c = map stored_block (taken_blocks c)

-- the blocks that it ever knew, with genesis
unfoldable pub tree : Chronicle → List Branch
tree c = blocks (stored_blocks c)

-- the greatest height that it voted for (HotStuff, PODC 2019, vheight)
unfoldable pub vheight : Chronicle → ℕ
vheight c = greatest (map length (voted_blocks c))

-- the first of the greatest height among the second justified blocks of what it took (HotStuff, PODC 2019,
-- b_lock)
unfoldable pub lock : Chronicle → Branch
lock c = highest (map (λ a. just2 a.branch) (taken_blocks c))

-- three blocks in direct succession, each justified by the next, decide the first of them (HotStuff, PODC
-- 2019, three-chain)
unfoldable pub decides : Branch → Bool
decides x = (length (just2 x) == suc (length (just3 x))) && (length (just1 x) == suc (length (just2 x)))

-- what a block decides, if anything, neither extends the last executed one nor is extended by it
abbrev pub decides_against : Branch → Branch → Bool
decides_against last x = decides x && (not (extends (just3 x) last) && not (extends last (just3 x)))

-- what was decided by these blocks
unfoldable pub decided_by : List Admitted → List Branch
decided_by [] = []
decided_by (a ∷ earlier) =
    if decides a.branch then just3 a.branch ∷ decided_by earlier else decided_by earlier

-- what was decided, with genesis
unfoldable pub decided : Chronicle → List Branch
decided c = decided_by (taken_blocks c) ++ [] ∷ []

-- the last executed block
unfoldable pub executed : Chronicle → Branch
executed c = highest (decided c)

-- the horizon: each pruning raises it, to no more than the height of the last executed block
unfoldable pub horizon : Chronicle → ℕ
horizon [] = 0
horizon (noted (pruned height) ∷ earlier) = max (min height (length (executed earlier))) (horizon earlier)
horizon (s ∷ earlier) = horizon earlier

-- it was given leave to prune
unfoldable pub was_pruned : Chronicle → Bool
was_pruned [] = false
was_pruned (noted (pruned height) ∷ earlier) = true
was_pruned (s ∷ earlier) = was_pruned earlier

-- what still stands in the tree
unfoldable pub standing_blocks : Chronicle → List Stored
standing_blocks c = standing (horizon c) (stored_blocks c)

-- the blocks that the rules look at, with genesis
unfoldable pub window : Chronicle → List Branch
window c = blocks (standing_blocks c)

-- the commands that it executed
unfoldable pub history : Chronicle → History
history c = history_of (executed c)

-- a block may be voted for by height and lock
unfoldable pub is_safe : Branch → Chronicle → Bool
is_safe b c =
    nat_lt (vheight c) (length b) && (extends b (lock c) || nat_lt (length (lock c)) (justify_height b))

-- ---- the law of a chronicle

-- a vote for b is higher than any before, safe by the lock, and only for clear blocks that were taken
pub record IsLawfulVote (b : Branch) (now earlier : Chronicle) : Type 0 where
  pub higher : vheight earlier < length b
  pub safe : Extends b (lock earlier) ⊎ (length (lock earlier) < length (just1 b))
  pub clear : (x : Branch) → Extends b x → length (just1 b) < length x
      → (a : Admitted) × Among a (taken_blocks now) × (a.branch ≡ x) × (a.clear ≡ true)
  pub taken : Among b (tree now)

-- these are distinct replicas, and at least so many
abbrev pub AreReplicas : Sizes → ℕ → List ℕ → Type 0
AreReplicas sizes least vs =
    AreDistinct vs × AllByRecursion (λ v. v < replicas sizes) vs × (least ≤ length vs)

-- it took the block
abbrev pub HasTaken : Branch → Chronicle → Type 0
HasTaken b c = (a : Admitted) × Among a (taken_blocks c) × (a.branch ≡ b)

-- Why b, which a taken block justifies, may be certified: it is genesis; a quorum of counted voters voted for
-- it; a block that was taken earlier justifies it too; or more than f replicas sent the taken block, so that
-- a correct one took that block earlier.
pub data HasGrounds (sizes : Sizes) (b : Branch) (counted senders : List ℕ) (earlier : Chronicle) : Type 0 where
  by_genesis : b ≡ [] → HasGrounds sizes b counted senders earlier
  by_votes : AreReplicas sizes (quorum sizes) counted → HasGrounds sizes b counted senders earlier
  by_take : (x : Admitted) → Among x (taken_blocks earlier) → just1 x.branch ≡ b
      → HasGrounds sizes b counted senders earlier
  by_senders : AreReplicas sizes (suc sizes.faults) senders → HasGrounds sizes b counted senders earlier

-- a taken block is new, stands on its parent, and what it justifies has grounds
pub record IsLawfulTake (sizes : Sizes) (a : Admitted) (earlier : Chronicle) : Type 0 where
  pub new : Among a.branch (tree earlier) → ⊥
  pub parent : (b : Block) × (parent : Branch) × (a.branch ≡ b ∷ parent) × (b.justify < suc (length parent))
      × Among parent (tree earlier)
  pub certified : HasGrounds sizes (just1 a.branch) a.counted a.senders earlier

-- what a step has to be
abbrev pub IsLawfulStep : Sizes → Step → Chronicle → Type 0
IsLawfulStep sizes (took_block a) earlier =
    (a.voted ≡ true → IsLawfulVote a.branch (took_block a ∷ earlier) earlier)
    × (a.new ≡ true → IsLawfulTake sizes a earlier)
IsLawfulStep sizes (noted (led_from b)) earlier = length (lock earlier) ≤ length b
IsLawfulStep sizes s earlier = ⊤

-- each step of a chronicle is lawful
abbrev pub IsLawful : Sizes → Chronicle → Type 0
IsLawful sizes [] = ⊤
IsLawful sizes (s ∷ earlier) = IsLawfulStep sizes s earlier × IsLawful sizes earlier

-- the block of each vote, of each announced certificate and of each lead was known when it came
abbrev pub AreKnown : Chronicle → Type 0
AreKnown [] = ⊤
AreKnown (noted (got_vote voter vector b) ∷ earlier) = Among b (tree earlier) × AreKnown earlier
AreKnown (noted (got_new_view view sender q b) ∷ earlier) = Among b (tree earlier) × AreKnown earlier
AreKnown (noted (led_from b) ∷ earlier) = Among b (tree earlier) × AreKnown earlier
AreKnown (s ∷ earlier) = AreKnown earlier

-- What is kept of a replica's chronicle at these sizes: each step is lawful, what is said of blocks is said
-- of known ones, those of the window are a tree of at most so many as a tree may have, and heights stay low.
pub record IsSound (sizes : Sizes) (c : Chronicle) : Type 0 where
  pub is_tree : IsTree (horizon c) (window c)
  pub lawful : IsLawful sizes c
  pub known : AreKnown c
  pub bounded : length (window c) ≤ MOST_BLOCKS
  pub heights : (x : Branch) → Among x (tree c) → length x < HEIGHT_LIMIT
