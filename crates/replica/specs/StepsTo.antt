-- One step of a replica that runs, over what it keeps. What is decided is executed after the step.
use Rattle.ids.specs.declared.fault.Fault.{Fault}
use Rattle.ids.specs.declared.fault.Fault.TheVariants as fault
use Rattle.std.specs.Prelude.{ℕ, ◌≡◌, ◌==◌, Bool, true, false, List, ◌∷◌, if◌then◌else◌, Result, Ok, Err}
use Rattle.std.specs.Prelude.{MatchResult}
use Rattle.definitions.specs.Keyrings.{Keys}
use Rattle.definitions.specs.Checks.{identity_of}
use Rattle.definitions.specs.Chronicles.{Chronicle, Step, horizon}
use Rattle.definitions.specs.States.{pending}
use Rattle.definitions.specs.Rulings.{Input, Ruling, Ruling.due, ruling, conflicts}
use Rattle.definitions.specs.Replicas.{MemorySupply, running, stopped}
use Rattle.definitions.specs.Replicas.{on_ruling}
use Rattle.signed_frames.specs.Outs.{SentBytes}
use Rattle.replica.specs.Steps.{Shows, shown}
use Rattle.replica.specs.Kept.{StateParts, waiting, IsStateOf}
use Rattle.replica.specs.Changes.{changed, asked, sent_first}
use Rattle.replica.specs.declared.change.Change.{Change}

-- the refusals after which a replica with this horizon is stopped
abbrev pub halts : ℕ → Fault → Bool
halts horizon fault.Full = horizon == 0
halts horizon fault.Conflict = true
halts horizon fault.Memory = true
halts horizon n = false

-- the step that was due stands
pub record Stands (keys : Keys) (v : Ruling) (c : Chronicle) (out : List SentBytes) (new : StateParts) :
    Type 0 where
  pub step : Step
  pub is_due : v ≡ due step
  pub calm : conflicts step c ≡ false
  pub state : IsStateOf keys (step ∷ c) (waiting (pending (step ∷ c)) new)
  pub waits : new.pending ≡ asked step c
  pub sent : out ≡ shown (sent_first (identity_of keys) step c)

-- nothing changed
pub record IsRefused (keys : Keys) (v : Ruling) (c : Chronicle) (n : Fault) (new : StateParts) : Type 0 where
  pub memory : MemorySupply
  pub state : IsStateOf keys c new
  pub left : (on_ruling (identity_of keys) memory v c).0
      ≡ record { chronicle = c; standing = if halts (horizon c) n then stopped else running }
  pub answer : Shows (on_ruling (identity_of keys) memory v c).1 (Err n)

-- what a ruling gives where this chronicle stands
abbrev pub Follows : Keys → Ruling → Chronicle → Result (List SentBytes) Fault → StateParts → Type 0
Follows keys v c result new =
    MatchResult result (λ out. Stands keys v c out new) (λ n. IsRefused keys v c n new)

-- what an input gives
abbrev pub StepsTo : Keys → Input → Chronicle → Result (List SentBytes) Fault → StateParts → Type 0
StepsTo keys input c result new = Follows keys (ruling (identity_of keys) input c) c result new

-- what is answered, and what is kept, where this was decided
abbrev pub answer : Result Change Fault → Result (List SentBytes) Fault
answer (Ok d) = Ok d.out
answer (Err n) = Err n

abbrev pub after : Result Change Fault → StateParts → StateParts
after (Ok d) s = changed d s
after (Err n) s = s
