-- What holds over every history of a party: beginnings, marks, numbers and crashes in any order.
use Rattle.std.specs.Prelude.{◌≡◌, ◌≢◌, ℕ, ◌+◌, ◌<◌, ◌≤◌, ◌==◌, List, [], ◌∷◌, Option, Some, None, Ok, Err, ⊤}
use Rattle.std.specs.Prelude.{if◌then◌else◌}
use Rattle.std.specs.List.{AllByRecursion}
use Rattle.ids.specs.Sizes.{client_party}
use Rattle.state_marks.specs.declared.refusal.Refusal.TheVariants.{HasSpoken}
use Rattle.state_marks.specs.Marking.{Numbers, begun}

-- how a party stands: the mark that its directory has; its numbers while it runs; each client's last number in this
-- life; and what was given in all lives, by which client, the newest first
pub record Standing : Type 0 where
  pub disk : ℕ
  pub runs : Option Numbers
  pub used : ℕ → ℕ
  pub given : List (ℕ × ℕ)

-- a new directory
abbrev pub nothing : Standing
nothing = record { disk = 0; runs = None; used = λ _. 0; given = [] }

-- what may happen: it begins; a mark comes to be on disk; the process goes on by it; a client gives its next number;
-- the process ends, in the midst of anything
pub data Event : Type 0 where
  begins : Event
  keeps : (mark : ℕ) → Event
  goes_by_it : Event
  gives : (client : ℕ) → Event
  crashes : Event

-- a client has given one more number
abbrev pub with_given : ℕ → Standing → Standing
with_given client s = record s {
  used = λ other. if other == client then s.used client + 1 else s.used other;
  given = (client, s.used client + 1) ∷ s.given;
}

-- these events, one after the other, lead from one standing to another: only what is marked is given, and no mark is
-- kept that is lower than the one that the process goes by
abbrev pub Lead : (party : ℕ) → Standing → List Event → Standing → Type 0
Lead party s [] new = new ≡ s
Lead party s (begins ∷ events) new =
    (n : Numbers) × (begun party s.disk ≡ Ok n)
    × Lead party (record s { runs = Some n; used = λ _. n.behind }) events new
Lead party s (keeps mark ∷ events) new =
    (n : Numbers) × (s.runs ≡ Some n) × (n.marked ≤ mark) × Lead party (record s { disk = mark }) events new
Lead party s (goes_by_it ∷ events) new =
    (n : Numbers) × (s.runs ≡ Some n)
    × Lead party (record s { runs = Some (record n { marked = s.disk }) }) events new
Lead party s (gives client ∷ events) new =
    (n : Numbers) × (s.runs ≡ Some n) × (s.used client + 1 ≤ n.marked)
    × Lead party (with_given client s) events new
Lead party s (crashes ∷ events) new = Lead party (record s { runs = None }) events new

-- each number is above all that its client gave before
abbrev pub Rise : List (ℕ × ℕ) → Type 0
Rise [] = ⊤
Rise (new ∷ old) = AllByRecursion (λ g. g.0 ≡ new.0 → g.1 < new.1) old × Rise old

-- No number is given twice: over every history each number is above all that the same client gave before.
abbrev pub GivesEachOnce : Type 0
GivesEachOnce =
    (party : ℕ) (events : List Event) (s : Standing) → Lead party nothing events s → Rise s.given

-- A replica that has spoken never begins again.
abbrev pub SpeaksInOneLife : Type 0
SpeaksInOneLife =
    (party : ℕ) (events : List Event) (s : Standing) → party < client_party 0 → Lead party nothing events s
    → s.given ≢ [] → begun party s.disk ≡ Err HasSpoken
