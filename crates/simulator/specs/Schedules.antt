-- Schedules, line by line.
use Rattle.std.specs.Prelude.{◌≡◌, Bool, ◌==◌, ℕ, ◌+◌, ◌<◌, ◌≤◌, ◌⊎◌, List, [], ◌∷◌, ◌++◌, length}
use Rattle.std.specs.List.{All, flat_map}
use Rattle.definitions.specs.Bytes.{Bytes}
use Rattle.simulator.specs.Lines.{IsHeading, heading_text, IsEvent, event_text}
use Rattle.world_schedule.specs.declared.event.Event.{Event}
use Rattle.simulator.specs.declared.lines.Heading.{Heading}
use Rattle.simulator.specs.declared.schedule.Schedule.{Schedule}

-- the byte ends a line
abbrev pub is_lf : ℕ → Bool
is_lf byte = byte == 10

-- a line with the LF that ends it
abbrev pub ended : Bytes → Bytes
ended words = words ++ 10 ∷ []

-- these words are the text's first line, and this stands behind it
abbrev pub BeginsWith : Bytes → Bytes → Bytes → Type 0
BeginsWith text words rest = text ≡ ended words ++ rest

-- only printable characters of ASCII
abbrev pub IsPrintable : ℕ → Type 0
IsPrintable byte = (32 ≤ byte) × (byte < 127)

abbrev pub IsPlain : Bytes → Type 0
IsPlain words = All IsPrintable words

-- the lines of a heading and of these events
abbrev pub lines : Heading → List Event → Bytes
lines heading events = ended (heading_text heading) ++ flat_map (λ e. ended (event_text e)) events

-- the text is this schedule's
pub record IsTextOf (s : Schedule) (text : Bytes) : Type 0 where
  pub heading : IsHeading s.heading
  pub events : All IsEvent s.events.items
  pub whole : text ≡ lines s.heading s.events.items

-- the text doesn't begin with the line of a heading
abbrev pub HasNoHeading : Bytes → Type 0
HasNoHeading text = (h : Heading) (rest : Bytes) → IsHeading h → BeginsWith text (heading_text h) rest → ⊥

-- there is more text, and it doesn't begin with the line of an event
abbrev pub HasNoEvent : Bytes → Type 0
HasNoEvent text =
    (0 < length text) × ((e : Event) (rest : Bytes) → IsEvent e → BeginsWith text (event_text e) rest → ⊥)

-- behind the line of a heading and so many lines of events the text has another line, which is no event's
pub record FailsBehind (text : Bytes) (heading : Heading) (before : List Event) (rest : Bytes) : Type 0 where
  pub fits : IsHeading heading
  pub events : All IsEvent before
  pub begins : text ≡ lines heading before ++ rest
  pub fails : HasNoEvent rest

-- the first line that isn't one of a schedule, counted from 1
abbrev pub IsFirstBadLine : Bytes → ℕ → Type 0
IsFirstBadLine text number = ((number ≡ 1) × HasNoHeading text)
    ⊎ ((h : Heading) × (events : List Event) × (rest : Bytes) × (number ≡ length events + 2)
    × FailsBehind text h events rest)
