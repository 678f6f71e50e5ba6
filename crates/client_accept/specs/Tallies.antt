-- A tally as it is kept: each answer once, and which one each replica gave.
use Rattle.std.specs.Prelude.{◌≡◌, ℕ, ◌<◌, ◌++◌, List, [], map, length, slice_index_or}
use Rattle.std.specs.List.{AllByRecursion}
use Rattle.definitions.specs.Bytes.{Bytes}
use Rattle.definitions.specs.Tally.{Told}
use Rattle.client_accept.specs.declared.answers.Answer.{Answer}
use Rattle.client_accept.specs.declared.tally.Counted.{Counted}

-- a place and a text
abbrev pub Said : Type 0
Said = ℕ × Bytes

-- what an answer says
abbrev pub said_in : Answer → Said
said_in a = (a.place, a.text.items)

-- what the answer of this number says
abbrev pub said_at : List Answer → ℕ → Said
said_at answers i = slice_index_or (map said_in answers) i (0, [])

-- what a counted replica told
abbrev pub told_in : List Answer → Counted → Told
told_in answers c =
    record { replica = c.replica; place = (said_at answers c.answer).0; text = (said_at answers c.answer).1 }

-- what all counted replicas told, the last one first
abbrev pub tally_of : List Answer → List Counted → List Told
tally_of answers counted = map (told_in answers) counted

-- each counted replica gave one of the answers
abbrev pub AreAmong : List Answer → List Counted → Type 0
AreAmong answers counted = AllByRecursion (λ c. c.answer < length answers) counted

-- the answer of this number says so
abbrev pub IsSaidAt : List Answer → ℕ → Said → Type 0
IsSaidAt answers i said = (i < length answers) × (said_at answers i ≡ said)

-- answers, with perhaps some more behind them
abbrev pub IsLonger : List Answer → List Answer → Type 0
IsLonger old new = (more : List Answer) × (new ≡ old ++ more)
