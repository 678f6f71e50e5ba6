-- What the turns and the numbers that were told are for.
use Rattle.std.specs.Prelude.{ℕ, ◌≡◌, ◌≢◌, ◌+◌, ◌-◌, ◌<◌, ◌≤◌, Bool, false, true, List, [], ◌∷◌, Any, Contains, Some, count_by, is_some, length, nat_le, sum_by}
use Rattle.catching_up.specs.Giving.{counted_until}
use Rattle.catching_up.specs.States.{CatchingUp, IsSound, asked, is_due, stays, whom}

-- the same replica, of as many, and the same one was asked last
pub record IsLike (old new : CatchingUp) : Type 0 where
  pub replicas : new.replicas ≡ old.replicas
  pub own : new.own ≡ old.own
  pub peer : new.peer ≡ old.peer

-- These were asked one after the other, and none was asked again: what each brought was nothing new, or its turn was over.
abbrev pub AskInARow : CatchingUp → List ℕ → Type 0
AskInARow old [] = Unit
AskInARow old (peer ∷ peers) = (s : CatchingUp) × (now : ℕ) × IsLike old s × (stays now s ≡ false)
    × (peer ≡ whom now s) × AskInARow (asked now s) peers

-- Of as many as there are others, asked in a row and none again, each other replica is one.
abbrev pub EachIsAsked : Type 0
EachIsAsked = (s : CatchingUp) (peers : List ℕ) → IsSound s → AskInARow s peers → s.replicas ≤ length peers + 1
    → (peer : ℕ) → peer < s.replicas → peer ≢ s.own → Contains peers peer

-- Before the last question's answer came to its end, the next one isn't due until that was out for as long as an answer is
-- awaited: however long a turn is, and whatever was executed meanwhile.
abbrev pub EachIsAwaited : Type 0
EachIsAwaited = (s : CatchingUp) (now : ℕ) → IsSound s → is_some s.from ≡ true → s.asked ≤ s.since → is_due now s ≡ true
    → s.wait ≤ now - s.asked

-- who told a height, and whether it lies
pub record Teller : Type 0 where
  pub height : ℕ
  pub lies : Bool

-- Where no more than so many lie, of more than so many that told a height, or a greater one, one doesn't lie.
abbrev pub ACorrectOneTold : Type 0
ACorrectOneTold = (faults height : ℕ) (tellers : List Teller) → count_by (λ t. t.lies) tellers ≤ faults
    → faults < count_by (λ t. nat_le height t.height) tellers
    → Any (λ t. (height ≤ t.height) × (t.lies ≡ false)) tellers

-- an answer that is given: when, and for how long it counts
pub record Given : Type 0 where
  pub now : ℕ
  pub cost : ℕ

-- These were given one after the other, where what was given before is counted until one moment, and what was behind them
-- until another.
abbrev pub GivenInARow : (ahead until : ℕ) → List Given → (behind : ℕ) → Type 0
GivenInARow ahead until [] behind = until ≡ behind
GivenInARow ahead until (g ∷ gs) behind =
    (next : ℕ) × (counted_until ahead until g.now g.cost ≡ Some next) × GivenInARow ahead next gs behind

-- All that is given before an answer costs no more than the time since the first, and what one may be ahead.
abbrev pub LittleIsGiven : Type 0
LittleIsGiven = (ahead until behind : ℕ) (first last : Given) (gs : List Given) → GivenInARow ahead until (first ∷ gs) behind
    → is_some (counted_until ahead behind last.now last.cost) ≡ true
    → first.now + sum_by (λ g. g.cost) (first ∷ gs) ≤ last.now + ahead
