-- A small run with real digests and tags: a leader proposes, another replica votes.
use Rattle.std.specs.Prelude.{◌≡◌, ℕ, ◌++◌, false, List, [], ◌∷◌, min, max, map, length, None, Ok}
use Rattle.std.specs.Int.{w16, to_be_bytes}
use Rattle.ids.specs.Sizes.{Sizes}
use Rattle.definitions.specs.Frames.{Frame, Certificate, genesis_core, spelling}
use Rattle.definitions.specs.Branches.{Branch}
use Rattle.definitions.specs.Digests.{digest}
use Rattle.definitions.specs.Keyrings.{Keyring}
use Rattle.definitions.specs.Sendings.{to_all, to_party, proposal_frame, vote_frame}
use Rattle.definitions.specs.Replicas.{ample}
use Rattle.definitions.specs.Worlds.{World, Happening, relay, beat, new_world, self_of}
use Rattle.definitions.specs.Runs.{run, after}
use Rattle.definitions.specs.Premises.{ArePremises}

-- four replicas and a client, none of them faulty
abbrev pub sizes : Sizes
sizes = record { faults = 1; clients = 1; most_keys = 65536 }

-- the key of two parties is their two numbers, the lower one first
abbrev pub ring : ℕ → Keyring
ring p = record { party = p; key = λ q. to_be_bytes w16 (min p q) ++ to_be_bytes w16 (max p q) }

-- the world of these before any event
abbrev pub start : World
start = new_world sizes (λ p. false) ring

-- the first block, without commands
abbrev pub block1 : Branch
block1 = record { commands = []; justify = 0 } ∷ []

-- the certificate of genesis has no votes
abbrev pub genesis_certificate : Certificate
genesis_certificate = record { digest = digest genesis_core; votes = [] }

-- replica 0's proposal of it in view 0, with a tag for each replica
abbrev pub proposed : Frame
proposed = proposal_frame (self_of start 0) 0 (record { block = block1; certificate = genesis_certificate })

-- replica 1's vote for it
abbrev pub voted : Frame
voted = vote_frame (self_of start 1) block1

-- a beat of replica 0, and what it sends is brought to replica 1, twice
abbrev pub schedule : List Happening
schedule = (beat 0, ample) ∷ (relay 0 1, ample) ∷ (relay 0 1, ample) ∷ []

-- the run takes it whole
abbrev pub IsTakenWhole : Type 0
IsTakenWhole = run start schedule ≡ Ok (after start schedule)

-- a proposal to all, a vote to the leader, and no second vote
abbrev pub SendsOneVote : Type 0
SendsOneVote = (after start schedule).sent ≡
    record { event = 1; sender = 0; to = to_all; frame = proposed }
    ∷ record { event = 2; sender = 1; to = to_party 0; frame = voted } ∷ []

-- of 220 bytes and of 164
abbrev pub Lengths : Type 0
Lengths = map (λ s. length (spelling s.frame)) (after start schedule).sent ≡ 220 ∷ 164 ∷ []

-- no event is refused
abbrev pub Answers : Type 0
Answers = (after start schedule).answers ≡ None ∷ None ∷ None ∷ []

-- the premises of the law of runs hold of it
abbrev pub PremisesHold : Type 0
PremisesHold = ArePremises start schedule
