-- A history with a repeated number and a skipped one.
use Rattle.std.specs.Prelude.{◌≡◌, ℕ, [], ◌∷◌, ◌++◌, map, Some, None, option_map, codes}
use Rattle.definitions.specs.Bytes.{Bytes}
use Rattle.definitions.specs.Requests.{crlf}
use Rattle.definitions.specs.Histories.{Entry, History, answers, answer_to, last_seq}

-- a client's command
abbrev pub asks : ℕ → ℕ → Bytes → Entry
asks client seq payload = record { client = client; seq = seq; payload = payload }

-- the canonical text of a set of the key a
abbrev pub set_a : Bytes → Bytes
set_a stored = codes "set a 0 0 1" ++ crlf ++ stored ++ crlf

-- client 0 asks as its second, as its first, and as its second again; client 1 asks what is no request
abbrev pub history : History
history =
    asks 1 1 (codes "abc") ∷ asks 0 2 (set_a (codes "x")) ∷ asks 0 1 (set_a (codes "y"))
    ∷ asks 0 2 (set_a (codes "x")) ∷ []

-- Fresh are the first and the fourth: each exceeds all earlier numbers of its client. The others aren't run.
abbrev pub FreshPlaces : Type 0
FreshPlaces = answers 65536 history ≡
    record { client = 1; seq = 1; place = 4; text = codes "ERROR" ++ crlf }
    ∷ record { client = 0; seq = 2; place = 1; text = codes "STORED" ++ crlf } ∷ []

-- a later get finds what the fresh one stored
abbrev pub StoredOnce : Type 0
StoredOnce = map (λ a. a.text) (answers 65536 (asks 1 2 (codes "get a" ++ crlf) ∷ history)) ≡
    (codes "VALUE a 0 1" ++ crlf ++ codes "x" ++ crlf ++ codes "END" ++ crlf) ∷ (codes "ERROR" ++ crlf)
    ∷ (codes "STORED" ++ crlf) ∷ []

-- only a client's last fresh number has an answer: not one that it skipped, nor one that it hasn't reached
abbrev pub AnswersLast : Type 0
AnswersLast =
    (option_map (λ a. a.place) (answer_to 65536 0 2 history) ≡ Some 1) × (answer_to 65536 0 1 history ≡ None)
    × (answer_to 65536 0 3 history ≡ None)

-- the last number of each client
abbrev pub LastNumbers : Type 0
LastNumbers = (last_seq 0 history ≡ 2) × (last_seq 1 history ≡ 1) × (last_seq 2 history ≡ 0)
