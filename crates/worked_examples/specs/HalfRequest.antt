-- A run that a request wedges: client 1 is faulty, and no replica is. Its request is right for replica 0 alone, which
-- proposes a block with it; no other one votes for that.
use Rattle.ids.specs.declared.kind.Kind.TheVariants as kind
use Rattle.std.specs.Prelude.{◌≡◌, ◌==◌, ◌*◌, ◌++◌, ℕ, List, [], ◌∷◌, Some, Ok, map, take, replicate}
use Rattle.ids.specs.Sizes.{Sizes, client_party}
use Rattle.definitions.specs.Branches.{Branch}
use Rattle.definitions.specs.Frames.{Command, Frame, command_content, spelling}
use Rattle.definitions.specs.Frames as frame
use Rattle.definitions.specs.Keyrings.{vector_for}
use Rattle.definitions.specs.Premises.{ArePremises}
use Rattle.definitions.specs.Replicas.{ample}
use Rattle.definitions.specs.Runs.{run}
use Rattle.definitions.specs.Tags.{tag_len}
use Rattle.definitions.specs.Worlds.{World, Event, Happening, submit, relay, inject, beat, new_world}
use Rattle.recovery.specs.NeverWedged.{MayHeal, IsAsked}
use Rattle.worked_examples.specs.Healed.{IsHealedFrom}
use Rattle.worked_examples.specs.Replicas.{payload}
use Rattle.worked_examples.specs.Rounds.{play}
use Rattle.worked_examples.specs.Runs.{ring}

-- four replicas and two clients
abbrev pub sizes : Sizes
sizes = record { faults = 1; clients = 2; most_keys = 65536 }

abbrev pub start : World
start = new_world sizes (λ p. p == client_party 1) ring

-- the faulty client's command, with a right tag for replica 0 alone
abbrev pub half : Command
half = record {
  client = 1;
  seq = 1;
  payload = payload;
  vector = take tag_len (vector_for sizes (ring (client_party 1)) kind.Request (command_content 1 1 payload))
      ++ replicate (3 * tag_len) 0;
}

-- the block that replica 0 makes of it
abbrev pub unclear : Branch
unclear = record { commands = half ∷ []; justify = 0 } ∷ []

-- It comes to replica 0, whose proposal comes to all. Then client 0 makes a request.
abbrev pub asked : List Event
asked =
    inject 0 (spelling (frame.request half)) (Some (frame.request half))
    ∷ beat 0 ∷ relay 0 0 ∷ relay 0 1 ∷ relay 0 2 ∷ relay 0 3 ∷ submit 0 payload ∷ []

abbrev pub schedule : List Happening
schedule = map (λ e. (e, ample)) asked

abbrev pub waiting : World
waiting = play start asked

-- the run takes it whole; replica 0's vote is the only one, so that no quorum comes of it
abbrev pub OneVotes : Type 0
OneVotes = (run start schedule ≡ Ok waiting)
    × (map {B = ℕ × ℕ} (λ s. (s.event, s.sender)) waiting.sent
    ≡ (2, 0) ∷ (3, 0) ∷ (7, client_party 0) ∷ [])

-- the premises of the law of runs hold of it
abbrev pub PremisesHold : Type 0
PremisesHold = ArePremises start schedule

-- client 0's request is frame 2 of the record
abbrev pub MayHealIt : Type 0
MayHealIt = MayHeal waiting × IsAsked waiting 2 0

-- client 0 has its receipt
abbrev pub IsHealed : Type 0
IsHealed = IsHealedFrom start schedule 2 1 waiting
