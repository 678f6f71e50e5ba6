-- A world after a pruning, in which a client waits. Beside a liar a first request was executed, by replicas 0 and 1 alone.
-- Replica 0 has forgotten the first block, which replica 2 took; that one lacks all others.
use Rattle.std.specs.Prelude.{◌≡◌, ◌++◌, ℕ, List, [], ◌∷◌, Ok, map, length}
use Rattle.definitions.specs.Branches.{Branch}
use Rattle.definitions.specs.Chronicles.{window}
use Rattle.definitions.specs.Frames.{Frame}
use Rattle.definitions.specs.Premises.{ArePremises}
use Rattle.definitions.specs.Runs.{run, after}
use Rattle.definitions.specs.Sendings.{vote_frame}
use Rattle.definitions.specs.Worlds.{World, Event, Happening, submit, relay, beat, prune}
use Rattle.recovery.specs.NeverWedged.{MayHeal, PrunedWell, IsAsked}
use Rattle.worked_examples.specs.Healed.{IsHealedFrom}
use Rattle.worked_examples.specs.Liar.{start, liar, comes_to, amply, schedule as run_with_liar}
use Rattle.worked_examples.specs.Replicas.{payload, fourth}

-- the two blocks above the four of that run
abbrev pub fifth : Branch
fifth = record { commands = []; justify = 4 } ∷ fourth

abbrev pub sixth : Branch
sixth = record { commands = []; justify = 5 } ∷ fifth

-- Votes of these numbers come to replica 0, and so does the liar's. It proposes the next block, in frame k, which comes to
-- replicas 0 and 1.
abbrev pub next : (a b k : ℕ) → Frame → List Event
next a b k f = relay a 0 ∷ relay b 0 ∷ comes_to 0 f ∷ beat 0 ∷ relay k 0 ∷ relay k 1 ∷ []

-- The first proposal comes to replica 2. Replica 0, which executed four blocks by now, prunes up to the last of them. Then
-- the client makes another request.
abbrev pub pruning : List Event
pruning = relay 1 2 ∷ prune 0 4 ∷ submit 0 payload ∷ []

abbrev pub later_with : (vote4 vote5 vote6 : Frame) → List Happening
later_with vote4 vote5 vote6 =
    amply (next 11 13 15 vote4)
    (amply (next 16 17 18 vote5) (amply (next 19 20 21 vote6) (amply pruning [])))

-- three more rounds, and that
abbrev pub later : List Happening
later = later_with (vote_frame liar fourth) (vote_frame liar fifth) (vote_frame liar sixth)

abbrev pub schedule : List Happening
schedule = run_with_liar ++ later

abbrev pub waiting : World
waiting = after start schedule

-- the run takes it whole; the heights of the blocks that replicas 0 and 2 have
abbrev pub OnePruned : Type 0
OnePruned =
    (run start schedule ≡ Ok waiting)
    × (map length (window (waiting.replica 0).chronicle) ≡ 7 ∷ 6 ∷ 5 ∷ 4 ∷ 3 ∷ 2 ∷ 0 ∷ [])
    × (map length (window (waiting.replica 2).chronicle) ≡ 1 ∷ 0 ∷ [])

-- the premises of the law of runs hold of it
abbrev pub PremisesHold : Type 0
PremisesHold = ArePremises start schedule

-- votes were careful, and what one lacks two others have; the request is frame 25 of the record
abbrev pub PrunedMayHeal : Type 0
PrunedMayHeal = PrunedWell waiting × MayHeal waiting × IsAsked waiting 25 0

-- the client has its receipt
abbrev pub IsHealed : Type 0
IsHealed = IsHealedFrom start schedule 25 2 waiting
