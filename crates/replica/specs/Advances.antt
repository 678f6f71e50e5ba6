-- One step of a replica that runs, with what it executes.
use Rattle.ids.specs.declared.fault.Fault.{Fault}
use Rattle.ids.specs.declared.fault.Fault.TheVariants as fault
use Rattle.std.specs.Prelude.{ℕ, ◌≡◌, List, length, if◌then◌else◌, Result, Ok, Err}
use Rattle.definitions.specs.Keyrings.{Keys}
use Rattle.definitions.specs.Checks.{identity_of}
use Rattle.definitions.specs.Chronicles.{Chronicle}
use Rattle.definitions.specs.Histories.{History}
use Rattle.definitions.specs.States.{pending}
use Rattle.definitions.specs.Rulings.{Input, ruling}
use Rattle.definitions.specs.Replicas.{MemorySupply, Standing, running, stopped, cut_short, Replica}
use Rattle.definitions.specs.Replicas.{held_history}
use Rattle.definitions.specs.Replicas.{held_pending, on_ruling}
use Rattle.signed_frames.specs.Outs.{SentBytes}
use Rattle.replica.specs.Steps.{Shows}
use Rattle.replica.specs.Kept.{StateParts, waiting, IsStateOf, AreFit, AreStored, AreSized}
use Rattle.replica.specs.declared.standing.Taken.{Taken}
use Rattle.replica.specs.declared.standing.Taken.TheVariants.{Sends, Refused, CutShort}
use Rattle.replica.specs.StepsTo.{halts}

-- a replica that goes on with this chronicle
abbrev pub going : Chronicle → Replica
going c = record { chronicle = c; standing = running }

-- what is kept is that of this replica, and so is the history
pub record IsWholeOf (keys : Keys) (r : Replica) (s : StateParts) (h : History) : Type 0 where
  pub state : IsStateOf keys r.chronicle (waiting (pending r.chronicle) s)
  pub waits : s.pending ≡ held_pending r
  pub history : h ≡ held_history r
  pub fit : AreFit keys.sizes r.chronicle
  pub stored : AreStored r.chronicle
  pub sized : AreSized keys.sizes r.chronicle

-- what a caller is told, and whether the replica with this horizon goes on with so many executed commands
abbrev pub answer_of : Taken → Result (List SentBytes) Fault
answer_of (Sends out) = Ok out
answer_of (Refused n) = Err n
answer_of CutShort = Err fault.Memory

abbrev pub standing_after : ℕ → Taken → ℕ → Standing
standing_after horizon (Sends out) held = running
standing_after horizon (Refused n) held = if halts horizon n then stopped else running
standing_after horizon CutShort held = cut_short held

-- what an input gives where this chronicle stands, with what memory there was
pub record Advances (keys : Keys) (input : Input) (c : Chronicle) (taken : Taken) (new : StateParts)
    (h : History)
    : Type 0 where
  pub memory : MemorySupply
  pub replica : Replica
  pub replica_is : (on_ruling (identity_of keys) memory (ruling (identity_of keys) input c) c).0 ≡ replica
  pub whole : IsWholeOf keys replica new h
  pub standing : replica.standing ≡ standing_after new.variables.horizon taken (length h)
  pub answer :
      Shows (on_ruling (identity_of keys) memory (ruling (identity_of keys) input c) c).1 (answer_of taken)
