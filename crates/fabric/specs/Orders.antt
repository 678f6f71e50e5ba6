-- In which order a worker takes what its replica sent to itself, and what comes over the link.
use Rattle.std.specs.Prelude.{◌≡◌, ◌⊎◌, ℕ, ◌+◌, ◌*◌, ◌<◌, Bool, true, false, length}
use Rattle.std.specs.Prelude.{if◌then◌else◌}
use Rattle.fair_queue.specs.Queues.{Rows, Takes, NoneReady, ready_at, row_at}

-- what waits at the link, and whether the link has its turn before the next own frame
pub record Order (T : Type 0) : Type 0 where
  pub link : Rows T
  pub link_is_next : Bool

-- An own frame is taken: the link isn't next, or nothing may be taken from it. The link is next then.
pub record TakesOwn {T : Type 0} (old new : Order T) : Type 0 where
  pub may : (old.link_is_next ≡ false) ⊎ NoneReady old.link
  pub is : new ≡ record old { link_is_next = true }

-- A parcel of the link is taken. An own frame may be next then.
pub record TakesOfLink {T : Type 0} (old new : Order T) : Type 0 where
  pub value : T
  pub taken : Takes old.link value new.link
  pub is : new.link_is_next ≡ false

-- within how many takes a row is served from which something may be taken, so many places behind the turn
abbrev pub takes_until : ℕ → Bool → ℕ
takes_until place link_is_next = 2 * place + (if link_is_next then 1 else 2)

-- the row so many places behind the turn
abbrev pub row_of : {T : Type 0} → Order T → ℕ → ℕ
row_of order place = row_at (length order.link.rows) order.link.turn place

-- After a take a row is as ready as before, and served within fewer takes.
abbrev pub IsNearer : {T : Type 0} → Order T → ℕ → Order T → Type 0
IsNearer old place new = (nearer : ℕ) × (row_of new nearer ≡ row_of old place)
    × (ready_at new.link.rows (row_of old place) ≡ true)
    × (takes_until nearer new.link_is_next < takes_until place old.link_is_next)

-- Where something may be taken from a row so many places behind the turn, a take of an own frame brings it nearer, and
-- a take of the link is of that row, or brings it nearer.
abbrev pub LinkIsServed : (T : Type 0) → Type 0
LinkIsServed T = (old new : Order T) (place : ℕ)
    → old.link.turn < length old.link.rows → place < length old.link.rows
    → ready_at old.link.rows (row_of old place) ≡ true
    → (TakesOwn old new → IsNearer old place new)
    × ((taken : TakesOfLink old new) → (taken.taken.number ≡ row_of old place) ⊎ IsNearer old place new)
