-- Trees of blocks, as a replica keeps them: whole branches, newest first, with genesis at the end. What was
-- pruned stands there no more. What a further block comes to there is this project's own list of tests (of
-- HotStuff, PODC 2019, the tree of nodes).
use Rattle.ids.specs.declared.fault.Fault.{Fault}
use Rattle.ids.specs.declared.fault.Fault.TheVariants as fault
use Rattle.ids.specs.declared.limits.TheConstants.{BELOW_HORIZON, MOST_OF_HEIGHT, HEIGHT_LIMIT}
use Rattle.std.specs.Prelude.{suc, ◌&&◌, true, ℕ, ◌≡◌, ◌==◌, ◌+◌, ◌≤◌, not, Bool, List, [], ◌∷◌, ◌++◌}
use Rattle.std.specs.Prelude.{map, length, if◌then◌else◌, nat_lt, nat_le, Option, Some, None, find, filter}
use Rattle.std.specs.Prelude.{count_by}
use Rattle.std.specs.List.{list_any}
use Rattle.std.specs.Str.{bytes_eq}
use Rattle.definitions.specs.Lists.{Among}
use Rattle.definitions.specs.Frames.{Core, Certificate}
use Rattle.definitions.specs.Branches.{Block, Branch, branch_eq, justify_height, just1, IsBranch}
use Rattle.definitions.specs.Bytes.{Bytes}
use Rattle.definitions.specs.Digests.{digest, digest_of}

-- A block that stands in a tree, with the certificate that came along and its clear mark.
pub record Stored : Type 0 where
  pub branch : Branch
  pub certificate : Certificate
  pub clear : Bool

-- A tree of at most so many blocks, genesis counted, that was pruned below this horizon: what still stands in
-- it above genesis, newest first.
pub record TreeState : Type 0 where
  pub most : ℕ
  pub horizon : ℕ
  pub stored : List Stored

-- the branches of the stored blocks, and genesis
abbrev pub blocks : List Stored → List Branch
blocks stored = map (λ s. s.branch) stored ++ [] ∷ []

-- A block stands in the tree until it is more than `BELOW_HORIZON` below the horizon. No block may justify one below the
-- horizon, so that three blocks in direct succession are seen whole.
abbrev pub is_in_reach : ℕ → Branch → Bool
is_in_reach horizon b = nat_le horizon (length b + BELOW_HORIZON)

-- what still stands of these blocks
abbrev pub standing : ℕ → List Stored → List Stored
standing horizon stored = filter (λ s. is_in_reach horizon s.branch) stored

-- the block of this digest
abbrev pub find_in : Bytes → List Branch → Option Branch
find_in d tree = find (λ b. bytes_eq (digest_of b) d) tree

-- the block stands there as a clear one
unfoldable pub is_clear : Branch → List Stored → Bool
is_clear x stored = list_any (λ s. s.clear && branch_eq s.branch x) stored

-- so does each block of x's branch above this height
unfoldable pub clear_above : ℕ → Branch → List Stored → Bool
clear_above height [] stored = true
clear_above height (b ∷ parent) stored =
    if nat_lt height (suc (length parent)) then is_clear (b ∷ parent) stored
    && clear_above height parent stored else true

-- a core's own block, without those below it
abbrev pub block_of : Core → Block
block_of core = record { commands = core.commands; justify = core.justify_height }

-- the certificate is for the block that b justifies
abbrev pub justifies : Certificate → Branch → Bool
justifies q b = bytes_eq q.digest (digest_of (just1 b))

-- What a block comes to in a tree: it stands there as this branch, or may stand as this one, or its parent is
-- lacking, or it is refused.
pub data Placing : Type 0 where
  stands : Branch → Placing
  grows : Branch → Placing
  lacks_parent : Placing
  unfit : Fault → Placing

-- a block that stands in the tree
unfoldable pub placing_known : ℕ → Branch → Certificate → Placing
placing_known horizon b q =
    if nat_lt (justify_height b) horizon then unfit fault.Pruned
    else (if justifies q b then stands b else unfit fault.WrongJustify)

-- a new block whose parent stands in the tree
unfoldable pub placing_new : ℕ → Branch → Core → Certificate → List Branch → Placing
placing_new most parent core q tree =
    let b : Branch = block_of core ∷ parent in
    if not (core.height == length b) then unfit fault.BadHeight
    else (if not (justifies q b) then unfit fault.WrongJustify
    else (if not (nat_lt (count_by (λ x. length x == length b) tree) MOST_OF_HEIGHT) then unfit fault.Crowded
    else (if not (nat_lt (length tree) most && nat_lt (length b) HEIGHT_LIMIT) then unfit fault.Full
    else grows b)))

-- a block that doesn't stand in the tree
abbrev pub placing_over : (horizon most : ℕ) → Core → Certificate → List Branch → Placing
placing_over horizon most core q tree =
    if nat_lt core.justify_height horizon then unfit fault.Pruned
    else elim (find_in core.parent tree)
    [ Some parent ↦ placing_new most parent core q tree | None ↦ lacks_parent ]

-- a block with its certificate, in a tree of at most so many blocks that is pruned below this horizon
unfoldable pub placing : (horizon most : ℕ) → Core → Certificate → List Branch → Placing
placing horizon most core q tree = elim (find_in (digest core) tree) [
  | Some b ↦ placing_known horizon b q
  | None ↦ placing_over horizon most core q tree
]

-- one branch a digest, each with all below it that is in reach, and genesis
pub record IsTree (horizon : ℕ) (t : List Branch) : Type 0 where
  pub branches : (x : Branch) → Among x t → IsBranch x
  pub one : (x y : Branch) → Among x t → Among y t → digest_of x ≡ digest_of y → x ≡ y
  pub parents : (b : Block) (parent : Branch) → Among (b ∷ parent) t → horizon ≤ length parent + BELOW_HORIZON
      → Among parent t
  pub genesis : Among [] t
