-- How the next question is found.
use Rattle.std.specs.Prelude.{ℕ, ◌≡◌, ◌<◌, Bool, true, false, slice_get, Option, Some, None}
use Rattle.asking.specs.Asking.{Asking, Question, comes_before, is_due}

-- It tells whether a question comes before the one at a place, if there is one.
abbrev pub IsSoonerThan : Asking → Question → Option ℕ → Bool → Type 0
IsSoonerThan a p None answer = answer ≡ true
IsSoonerThan a p (Some place) answer = (q : Question) → slice_get a.questions place ≡ Some q
    → answer ≡ comes_before a.replicas a.turn p q

-- Of so many questions it is the place of that which is due and comes before all others that are, if one is due.
abbrev pub IsFirstOf : Asking → (now count : ℕ) → Option ℕ → Type 0
IsFirstOf a now count None = (k : ℕ) (q : Question) → k < count → slice_get a.questions k ≡ Some q
    → is_due now q ≡ false
IsFirstOf a now count (Some place) = (q : Question) × (slice_get a.questions place ≡ Some q) × (is_due now q ≡ true)
    × ((k : ℕ) (other : Question) → k < count → slice_get a.questions k ≡ Some other → is_due now other ≡ true
    → comes_before a.replicas a.turn other q ≡ false)
