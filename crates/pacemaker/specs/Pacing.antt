-- What a pacemaker keeps, and whose it is.
use Rattle.std.specs.Prelude.{◌≡◌, ℕ, ◌<◌, ◌≤◌, ◌⊎◌, List, length, slice_index, nat_le, ⊤}
use Rattle.ids.specs.declared.limits.TheConstants.{MOST_REPLICAS}
use Rattle.ids.specs.Sizes.{Sizes, replicas}
use Rattle.definitions.specs.Lists.{count_below}
use Rattle.definitions.specs.Chronicles.{Chronicle, Step, Step.noted, Note.got_new_view, Note.timed_out}
use Rattle.definitions.specs.Chronicles.{Note.seen_view}
use Rattle.definitions.specs.States.{announced, view}

-- the sizes, the view, and the greatest view that each replica announced, by number
pub record Pace : Type 0 where
  pub sizes : Sizes
  pub view : ℕ
  pub announced : List ℕ

-- it is the pace of the replica that has this chronicle
pub record IsPaceOf (chronicle : Chronicle) (pace : Pace) : Type 0 where
  pub row : length pace.announced ≡ MOST_REPLICAS
  pub view : pace.view ≡ view pace.sizes chronicle
  pub announced : (i : ℕ) → i < replicas pace.sizes → slice_index pace.announced i ≡ announced i chronicle

-- the step is no timeout and brings no announcement
abbrev pub LeavesPace : Step → Type 0
LeavesPace (noted timed_out) = ⊥
LeavesPace (noted (got_new_view view sender q b)) = ⊥
LeavesPace (noted (seen_view view sender)) = ⊥
LeavesPace st = ⊤

-- how many replicas have announced or passed a view
abbrev pub passed_by : Pace → ℕ → ℕ
passed_by p v = count_below (replicas p.sizes) (λ i. nat_le v (slice_index p.announced i))

-- the greatest announced view that more than f replicas have announced or passed, 0 where there is none
pub record IsReached (p : Pace) (v : ℕ) : Type 0 where
  pub some : (v ≡ 0)
      ⊎ ((i : ℕ) × (i < replicas p.sizes) × (slice_index p.announced i ≡ v)
      × (p.sizes.faults < passed_by p v))
  pub most : (i : ℕ) → i < replicas p.sizes → p.sizes.faults < passed_by p (slice_index p.announced i)
      → slice_index p.announced i ≤ v
