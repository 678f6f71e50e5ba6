-- The step of a replica. Its state is its chronicle, and whether it goes on.
use Rattle.ids.specs.declared.fault.Fault.{Fault}
use Rattle.ids.specs.declared.fault.Fault.TheVariants as fault
use Rattle.std.specs.Prelude.{ℕ, ◌+◌, ◌==◌, Bool, false, List, [], ◌∷◌, filter, length, min, if◌then◌else◌}
use Rattle.std.specs.Prelude.{nat_lt, nat_le}
use Rattle.definitions.specs.Lists.{beginning}
use Rattle.definitions.specs.Frames.{Command}
use Rattle.definitions.specs.Branches.{Branch}
use Rattle.definitions.specs.Bytes.{Bytes}
use Rattle.definitions.specs.Histories.{History, history_of}
use Rattle.definitions.specs.Chronicles.{Step, Chronicle, executed, horizon, history}
use Rattle.definitions.specs.Checks.{Identity}
use Rattle.definitions.specs.States.{is_due, pending}
use Rattle.definitions.specs.Rulings.{Input, Ruling, ruling, conflicts, Ruling.due, Ruling.missing}
use Rattle.definitions.specs.Rulings.{Ruling.refusing}
use Rattle.definitions.specs.Sendings.{Sending, sendings}

-- ---- the whole step

-- How an event meets the allocator: nothing is refused, something before any change, or something after
-- that many more commands were executed.
pub data MemorySupply : Type 0 where
  ample : MemorySupply
  refused_at_once : MemorySupply
  refused_after : ℕ → MemorySupply

-- whether a replica goes on
pub data Standing : Type 0 where
  running : Standing
  stopped : Standing
  cut_short : (held : ℕ) → Standing  -- stopped within its last step, with that many entries of its history

-- the state of a replica
pub record Replica : Type 0 where
  pub chronicle : Chronicle
  pub standing : Standing

-- what a step answers
pub data Reaction : Type 0 where
  sends_out : List Sending → Reaction
  fails : Fault → Reaction
  asks_for : (sender : ℕ) → (block : Bytes) → Reaction  -- for want of this block

-- what a replica executed
unfoldable pub held_history : Replica → History
held_history r = elim r.standing [
  | running ↦ history r.chronicle
  | stopped ↦ history r.chronicle
  | cut_short held ↦ beginning held (history r.chronicle)
]

-- a replica that stopped
abbrev pub stopped_at : Chronicle → Replica
stopped_at c = record { chronicle = c; standing = stopped }

-- the step executes a command
unfoldable pub executes : Step → Chronicle → Bool
executes s c = nat_lt (length (history c)) (length (history (s ∷ c)))

-- a step that is to stand
unfoldable pub on_step : Identity → MemorySupply → Step → Chronicle → Replica × Reaction
on_step self ample s c =
    if conflicts s c then (stopped_at c, fails fault.Conflict)
    else (record { chronicle = s ∷ c; standing = running }, sends_out (sendings self s c))
on_step self refused_at_once s c = (stopped_at c, fails fault.Memory)
on_step self (refused_after k) s c =
    if conflicts s c then (stopped_at c, fails fault.Conflict)
    else (if executes s c
    then (
      record {
        chronicle = s ∷ c;
        standing = cut_short (min (length (history c) + k) (length (history (s ∷ c))));
      },
      fails fault.Memory,
    )
    else (stopped_at c, fails fault.Memory))

-- A full tree stops a replica that never pruned. One with a horizon goes on: it can prune again.
abbrev pub stops : Fault → Chronicle → Bool
stops fault.Full c = horizon c == 0
stops f c = false

-- what a ruling leaves
unfoldable pub on_ruling : Identity → MemorySupply → Ruling → Chronicle → Replica × Reaction
on_ruling self m (due s) c = on_step self m s c
on_ruling self m (missing sender d) c = (record { chronicle = c; standing = running }, asks_for sender d)
on_ruling self m (refusing n) c =
    (record { chronicle = c; standing = if stops n c then stopped else running }, fails n)

-- one input of a replica; a stopped one never changes
unfoldable pub step : Identity → MemorySupply → Input → Replica → Replica × Reaction
step self m input r =
    elim r.standing [
      | running ↦ on_ruling self m (ruling self input r.chronicle) r.chronicle
      | stopped ↦ (r, fails fault.Stopped)
      | cut_short held ↦ (r, fails fault.Stopped)
    ]

-- ---- what a replica that was cut short holds: the blocks executed whole, and the pending list after them

-- the greatest block whose whole history is held
unfoldable pub whole_blocks : ℕ → Branch → Branch
whole_blocks held [] = []
whole_blocks held (b ∷ parent) =
    if nat_le (length (history_of (b ∷ parent))) held then b ∷ parent else whole_blocks held parent

-- the last block that was executed whole
unfoldable pub held_executed : Replica → Branch
held_executed r = elim r.standing [
  | running ↦ executed r.chronicle
  | stopped ↦ executed r.chronicle
  | cut_short held ↦ whole_blocks held (executed r.chronicle)
]

-- the chronicle before its last step
abbrev pub before_last : Chronicle → Chronicle
before_last [] = []
before_last (s ∷ earlier) = earlier

-- the requests that still wait
unfoldable pub held_pending : Replica → List Command
held_pending r = elim r.standing [
  | running ↦ pending r.chronicle
  | stopped ↦ pending r.chronicle
  | cut_short held ↦ filter (is_due (history_of (held_executed r))) (pending (before_last r.chronicle))
]
