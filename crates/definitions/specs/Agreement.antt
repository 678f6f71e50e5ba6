-- Families of chronicles: certified blocks, and orders of all their steps.
use Rattle.std.specs.Prelude.{ℕ, ◌≡◌, ◌≤◌, ◌==◌, Bool, true, List, [], ◌∷◌, if◌then◌else◌, ⊤}
use Rattle.std.specs.List.{list_any}
use Rattle.definitions.specs.Lists.{Among, count_below}
use Rattle.definitions.specs.Branches.{Branch, just1, branch_eq}
use Rattle.ids.specs.Sizes.{Sizes, replicas, quorum}
use Rattle.definitions.specs.Chronicles.{Step, Step.took_block, Chronicle, voted_blocks, HasTaken, IsLawful}

-- The chronicles of some replicas, the members.
pub record Family : Type 0 where
  pub sizes : Sizes
  pub is_member : ℕ → Bool
  pub chronicle : ℕ → Chronicle

-- a quorum of replicas are members
abbrev pub IsFamily : Family → Type 0
IsFamily fam = quorum fam.sizes ≤ count_below (replicas fam.sizes) fam.is_member

-- who may count as voter for b: members that voted for it, and all that aren't members
unfoldable pub supports : Family → Branch → ℕ → Bool
supports fam b i = if fam.is_member i then list_any (branch_eq b) (voted_blocks (fam.chronicle i)) else true

-- a quorum may have voted for b (a quorum certificate of HotStuff, PODC 2019)
abbrev pub MayBeCertified : Family → Branch → Type 0
MayBeCertified fam b = quorum fam.sizes ≤ count_below (replicas fam.sizes) (supports fam b)

-- ---- order

-- the steps of several replicas in one order, newest first
abbrev pub Order : Type 0
Order = List (ℕ × Step)

-- one replica's steps in an order
unfoldable pub steps_of : ℕ → Order → Chronicle
steps_of i [] = []
steps_of i (p ∷ earlier) = if p.0 == i then p.1 ∷ steps_of i earlier else steps_of i earlier

-- each vote that a step counts in a member's name is an earlier vote of it, and each member that sent the
-- block took it earlier
abbrev pub IsBacked : (ℕ → Bool) → Step → Order → Type 0
IsBacked is_member (took_block a) earlier =
    a.new ≡ true → (v : ℕ) → is_member v ≡ true
    → (Among v a.counted → Among (just1 a.branch) (voted_blocks (steps_of v earlier)))
    × (Among v a.senders → HasTaken a.branch (steps_of v earlier))
IsBacked is_member s earlier = ⊤

-- each step in the order is backed by the earlier ones
abbrev pub IsOrdered : (ℕ → Bool) → Order → Type 0
IsOrdered is_member [] = ⊤
IsOrdered is_member (p ∷ earlier) = IsBacked is_member p.1 earlier × IsOrdered is_member earlier

-- the members' steps stand in one such order, each member's own in its own
pub record IsOrderly (fam : Family) : Type 0 where
  pub order : Order
  pub whole : (i : ℕ) → fam.is_member i ≡ true → steps_of i order ≡ fam.chronicle i
  pub ordered : IsOrdered fam.is_member order

-- what agreement takes of a family: a quorum of replicas, whose chronicles are lawful and stand in one order
pub record IsLawfulFamily (fam : Family) : Type 0 where
  pub enough : IsFamily fam
  pub lawful : (i : ℕ) → fam.is_member i ≡ true → IsLawful fam.sizes (fam.chronicle i)
  pub orderly : IsOrderly fam
