-- What the accounts and the turns are for.
use Rattle.std.specs.Prelude.{ℕ, ◌≡◌, ◌⊎◌, ◌<◌, List, Option, Some, true, slice_get}
use Rattle.asking.specs.declared.ask.Ask.{Ask}
use Rattle.asking.specs.Asking.{Asking, Asks, IsBounded, Question, has_room, is_due, needing, places_behind}

-- what is asked for on one replica's account takes no room on another's
abbrev pub OthersKeepRoom : Type 0
OthersKeepRoom = (n : ℕ) (block : List ℕ) (payer other : ℕ) (whom : Option ℕ) (now : ℕ) (qs : List Question)
    → (payer ≡ other → ⊥) → has_room n other (needing block payer whom now qs) ≡ has_room n other qs

-- Where a question is asked, each other one that is due is on the same account, or its payer is nearer to the turn than
-- before. So of n replicas each that has one due has its turn within n questions.
abbrev pub ComeNearer : Type 0
ComeNearer = (old new : Asking) (now : ℕ) (ask : Ask) → IsBounded old → (asks : Asks old now ask new)
    → (k : ℕ) (other : Question) → slice_get old.questions k ≡ Some other → is_due now other ≡ true
    → (other.payer ≡ asks.question.payer)
    ⊎ (places_behind new.replicas new.turn other.payer < places_behind old.replicas old.turn other.payer)
