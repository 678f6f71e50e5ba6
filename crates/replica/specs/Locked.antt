-- What stands over a replica's lock.
use Rattle.std.specs.Prelude.{ℕ, ◌≡◌, List, [], find, reverse, length, Option, Some, None, option_map, unwrap_or}
use Rattle.std.specs.Prelude.{if◌then◌else◌}
use Rattle.definitions.specs.Bytes.{Bytes}
use Rattle.definitions.specs.Lists.{Among}
use Rattle.definitions.specs.Branches.{Branch, branch_eq, just1, just2}
use Rattle.definitions.specs.Chronicles.{Chronicle, taken_blocks, lock}
use Rattle.definitions.specs.Digests.{digest_of}
use Rattle.definitions.specs.Trees.{Stored, blocks, IsTree}

-- The block that justifies a replica's lock and is justified itself, by the oldest block that it took over such a one;
-- genesis where it took none.
abbrev pub over_lock : Chronicle → Branch
over_lock c =
    unwrap_or (option_map (λ a. just1 a.branch) (find (λ a. branch_eq (just2 a.branch) (lock c))
    (reverse (taken_blocks c)))) []

-- ---- in a tree

-- a tree from which nothing was pruned has this block, under this digest
pub record HasBlock (stored : List Stored) (x : Branch) (d : Bytes) : Type 0 where
  pub tree : IsTree 0 (blocks stored)
  pub among : Among x (blocks stored)
  pub named : d ≡ digest_of x

-- a block, by its digest and its height
abbrev pub named : Branch → Bytes × ℕ
named x = (digest_of x, length x)

-- what a block justifies, if that justifies the lower one
abbrev pub over_by : Branch → Branch → Option (Bytes × ℕ)
over_by lower x = if branch_eq (just2 x) lower then Some (named (just1 x)) else None

-- the same of the oldest block that stands so over the lower one
abbrev pub over_in : Branch → List Stored → Option (Bytes × ℕ)
over_in lower stored =
    option_map (λ s. named (just1 s.branch)) (find (λ s. branch_eq (just2 s.branch) lower) (reverse stored))
