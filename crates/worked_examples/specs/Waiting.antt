-- A client waits in a world that a half vote wedged: all that healing asks of a world holds there.
use Rattle.std.specs.Prelude.{◌≡◌, ◌++◌, ◌∷◌, [], List, Ok, map}
use Rattle.definitions.specs.Premises.{ArePremises}
use Rattle.definitions.specs.Replicas.{ample}
use Rattle.definitions.specs.Runs.{run}
use Rattle.definitions.specs.Worlds.{World, Event, Happening, submit}
use Rattle.recovery.specs.NeverWedged.{MayHeal, IsAsked}
use Rattle.worked_examples.specs.Healed.{IsHealedFrom}
use Rattle.worked_examples.specs.Healing.{wedged}
use Rattle.worked_examples.specs.Liar.{start}
use Rattle.worked_examples.specs.Replicas.{payload}
use Rattle.worked_examples.specs.Rounds.{play}

-- Replicas 1 and 2 refused the second block. Then the client makes a request.
abbrev pub asked : List Event
asked = wedged ++ submit 0 payload ∷ []

abbrev pub schedule : List Happening
schedule = map (λ e. (e, ample)) asked

abbrev pub waiting : World
waiting = play start asked

-- the run takes it whole
abbrev pub IsTakenWhole : Type 0
IsTakenWhole = run start schedule ≡ Ok waiting

-- the premises of the law of runs hold of it: the half vote forges nothing
abbrev pub PremisesHold : Type 0
PremisesHold = ArePremises start schedule

-- the request is frame 6 of the record
abbrev pub WedgedMayHeal : Type 0
WedgedMayHeal = MayHeal waiting × IsAsked waiting 6 0

-- the client has its receipt
abbrev pub IsHealed : Type 0
IsHealed = IsHealedFrom start schedule 6 1 waiting
