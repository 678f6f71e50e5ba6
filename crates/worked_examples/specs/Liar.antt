-- A run with a liar, up to a receipt: replica 3 is faulty. Its votes count. Its reply tells another text.
use Rattle.std.specs.Prelude.{◌≡◌, ◌==◌, ℕ, ◌+◌, ◌++◌, List, [], ◌∷◌, Some, None, Ok, map, replicate}
use Rattle.std.specs.Prelude.{codes}
use Rattle.ids.specs.Sizes.{client_party}
use Rattle.definitions.specs.Bytes.{Bytes}
use Rattle.definitions.specs.Requests.{crlf}
use Rattle.definitions.specs.Frames.{Frame, spelling}
use Rattle.definitions.specs.Histories.{Answer, answers, history_of}
use Rattle.definitions.specs.Checks.{Identity}
use Rattle.definitions.specs.States.{qc_high}
use Rattle.definitions.specs.Sendings.{vote_frame, reply_to}
use Rattle.definitions.specs.Replicas.{ample, held_history}
use Rattle.definitions.specs.Tally.{Told}
use Rattle.definitions.specs.Worlds.{World, Event, Happening, submit, relay, inject, beat, new_world}
use Rattle.definitions.specs.Runs.{run, after}
use Rattle.definitions.specs.Premises.{ArePremises}
use Rattle.worked_examples.specs.Runs.{sizes, ring}
use Rattle.worked_examples.specs.Replicas.{payload, first, second, third}

-- four replicas, of which replica 3 is faulty, and a client
abbrev pub start : World
start = new_world sizes (λ p. p == 3) ring

-- the faulty replica, with its own keys
abbrev pub liar : Identity
liar = record { sizes = sizes; ring = ring 3 }

-- what the cache replies to the request, and what the liar tells of it
abbrev pub stored : Bytes
stored = codes "STORED" ++ crlf

abbrev pub not_stored : Bytes
not_stored = codes "NOT_STORED" ++ crlf

-- the answer to the request, with this text
abbrev pub answer : Bytes → Answer
answer text = record { client = 0; seq = 1; place = 1; text = text }

-- the liar's reply
abbrev pub lie : Frame
lie = (reply_to liar (answer not_stored)).1

-- a frame of the liar's comes to a party
abbrev pub comes_to : ℕ → Frame → Event
comes_to party f = inject party (spelling f) (Some f)

-- Replica 0 proposes a block. The proposal, of number k, comes to replicas 0 and 1. Their votes come to
-- replica 0, and so does the liar's.
abbrev pub round : ℕ → Frame → List Event
round k f = beat 0 ∷ relay k 0 ∷ relay k 1 ∷ relay (k + 1) 0 ∷ relay (k + 2) 0 ∷ comes_to 0 f ∷ []

-- with ample memory, and then these
abbrev pub amply : List Event → List Happening → List Happening
amply events rest = map (λ e. (e, ample)) events ++ rest

-- the fourth proposal, which decides the first block; then the client gets the liar's reply first
abbrev pub ending : Frame → List Happening
ending told =
    amply (beat 0 ∷ relay 10 0 ∷ relay 10 1 ∷ [])
    (amply (comes_to (client_party 0) told ∷ relay 12 (client_party 0) ∷ relay 14 (client_party 0) ∷ []) [])

-- a request, three rounds, and that
abbrev pub schedule_with : (vote1 vote2 vote3 told : Frame) → List Happening
schedule_with vote1 vote2 vote3 told =
    amply (submit 0 payload ∷ relay 0 0 ∷ [])
    (amply (round 1 vote1) (amply (round 4 vote2) (amply (round 7 vote3) (ending told))))

abbrev pub schedule : List Happening
schedule = schedule_with (vote_frame liar first) (vote_frame liar second) (vote_frame liar third) lie

-- the world at the end
abbrev pub last : World
last = after start schedule

-- the run takes it whole, and refuses no event
abbrev pub IsTakenWhole : Type 0
IsTakenWhole = (run start schedule ≡ Ok last) × (last.answers ≡ replicate 26 None)

-- the premises of the law of runs hold of it
abbrev pub PremisesHold : Type 0
PremisesHold = ArePremises start schedule

-- the third block's certificate has the liar's vote beside those of replicas 0 and 1
abbrev pub LiarVotes : Type 0
LiarVotes = map (λ b. b.voter) (qc_high sizes (last.replica 0).chronicle).certificate.votes ≡ 0 ∷ 1 ∷ 3 ∷ []

-- what a replica told
abbrev pub told : ℕ → Bytes → Told
told replica text = record { replica = replica; place = 1; text = text }

-- the client counted the liar's reply, which tells another text
abbrev pub LiarTells : Type 0
LiarTells = (last.session 0).tally ≡ told 1 stored ∷ told 0 stored ∷ told 3 not_stored ∷ []

-- the client accepts a reply in the last event
abbrev pub Accepts : Type 0
Accepts = last.receipts
    ≡ record { event = 26; client = 0; receipt = record { seq = 1; place = 1; text = stored } } ∷ []

-- it is the sequential cache's answer in the history that replicas 0 and 1 hold
abbrev pub IsOfTheCache : Type 0
IsOfTheCache = (held_history (last.replica 0) ≡ history_of first)
    × (held_history (last.replica 1) ≡ history_of first)
    × (answers sizes.most_keys (history_of first) ≡ answer stored ∷ [])
