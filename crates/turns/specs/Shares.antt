-- The shares that count the steps of a replica.
use Rattle.std.specs.Prelude.{◌≡◌, ◌⊎◌, ℕ, ◌+◌, List, Result, Ok, Err}
use Rattle.ids.specs.declared.fault.Fault.{Fault}
use Rattle.ids.specs.declared.fault.Fault.TheVariants as fault
use Rattle.signed_frames.specs.Outs.{SentBytes}

-- a share: of which replica, which of those made, and how many steps it counts
pub record ShareState : Type 0 where
  pub replica : ℕ
  pub number : ℕ
  pub count : ℕ

-- a share after some more steps
abbrev pub with_more_steps : ShareState → ℕ → ShareState
with_more_steps share more = record share { count = share.count + more }

-- what a share counts of an answer: an answer that sends something is one step; want of memory may be one,
-- while it is executed; and another refusal is none
abbrev pub Counts : ShareState → Result (List SentBytes) Fault → ShareState → Type 0
Counts old (Ok out) new = new ≡ with_more_steps old 1
Counts old (Err n) new = (new ≡ old) ⊎ ((n ≡ fault.Memory) × (new ≡ with_more_steps old 1))
