-- What a call does that appends to bytes: all, or nothing.
use Rattle.std.specs.Prelude.{◌≡◌, ℕ, ◌+◌, ◌<◌, ◌≤◌, ◌++◌, length, Result, Err, OnOk, OnErr, Vec, vec_len}
use Rattle.std.specs.Prelude.{vec_capacity}
use Rattle.std.specs.declared.alloc.Global.{Global}
use Rattle.ids.specs.declared.fault.Fault.{Fault}
use Rattle.ids.specs.declared.fault.Fault.TheVariants.{Memory}
use Rattle.definitions.specs.Bytes.{Bytes}

-- The text was appended; or memory was refused: then nothing was appended, and the spare room was too small
-- for it. The room never shrinks.
pub record IsAppended {T : Type 0} (old new : Vec ℕ Global) (text : Bytes) (result : Result T Fault) :
    Type 0 where
  pub appended : OnOk result (new.items ≡ old.items ++ text)
  pub unchanged : OnErr result (new.items ≡ old.items)
  pub memory : OnErr result (result ≡ Err Memory)
  pub grown : OnErr result (vec_capacity old < vec_len old + length text)
  pub room : vec_capacity old ≤ vec_capacity new
