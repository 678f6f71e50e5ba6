-- The first round of a run: a client's request is proposed and voted for, and the votes make a certificate.
use Rattle.std.specs.Prelude.{◌≡◌, ℕ, List, [], ◌∷◌, map, length}
use Rattle.definitions.specs.Frames.{spelling}
use Rattle.definitions.specs.Replicas.{ample}
use Rattle.definitions.specs.Worlds.{World, Event, submit, relay, beat}
use Rattle.definitions.specs.Runs.{after}
use Rattle.worked_examples.specs.Runs.{start}
use Rattle.worked_examples.specs.Replicas.{payload}

-- the world after these events, with ample memory
abbrev pub play : World → List Event → World
play w events = after w (map (λ e. (e, ample)) events)

-- a frame comes to replicas 0 to 3
abbrev pub to_each : ℕ → List Event → List Event
to_each k rest = relay k 0 ∷ relay k 1 ∷ relay k 2 ∷ relay k 3 ∷ rest

-- four votes come to replica 0
abbrev pub votes_to_0 : ℕ → ℕ → ℕ → ℕ → List Event → List Event
votes_to_0 a b c d rest = relay a 0 ∷ relay b 0 ∷ relay c 0 ∷ relay d 0 ∷ rest

-- the request is submitted and brought to all; a block with it is proposed and voted for by all; the votes
-- make a certificate, with which the next block is proposed
abbrev pub first_round : List Event
first_round = submit 0 payload ∷ to_each 0 (beat 0 ∷ to_each 1 (votes_to_0 2 3 4 5 (beat 0 ∷ [])))

-- the world after the first round
abbrev pub last : World
last = play start first_round

-- a request, a proposal with it, four votes, and a proposal without commands whose certificate has three
-- votes
abbrev pub SentSizes : Type 0
SentSizes = map (λ s. length (spelling s.frame)) last.sent ≡ 158 ∷ 376 ∷ 164 ∷ 164 ∷ 164 ∷ 164 ∷ 610 ∷ []

-- in these events
abbrev pub SentIn : Type 0
SentIn = map (λ s. s.event) last.sent ≡ 1 ∷ 6 ∷ 7 ∷ 8 ∷ 9 ∷ 10 ∷ 15 ∷ []
