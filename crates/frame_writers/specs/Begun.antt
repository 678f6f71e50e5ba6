-- What a call does that appends a frame up to its tags: all of that, or nothing.
use Rattle.std.specs.Prelude.{◌≡◌, ℕ, ◌+◌, ◌<◌, ◌≤◌, ◌∷◌, ◌++◌, length, Result, Err, OnOk, OnErr, Vec, vec_len}
use Rattle.std.specs.Prelude.{vec_capacity}
use Rattle.std.specs.declared.alloc.Global.{Global}
use Rattle.ids.specs.declared.fault.Fault.{Fault}
use Rattle.ids.specs.declared.fault.Fault.TheVariants.{Memory}
use Rattle.ids.specs.declared.limits.TheConstants.{VERSION_TWO}
use Rattle.definitions.specs.Bytes.{Bytes}

-- a frame of version 2 up to its tags
abbrev pub untagged : (kind : ℕ) (middle : Bytes) → Bytes
untagged kind middle = VERSION_TWO ∷ kind ∷ middle

-- It was appended, with room for so many bytes of tags; or memory was refused: then nothing was appended, and
-- the spare room was too small for all of it. The room never shrinks.
pub record IsBegun {T : Type 0} (old new : Vec ℕ Global) (text : Bytes) (tags : ℕ) (result : Result T Fault) :
    Type 0 where
  pub appended : OnOk result (new.items ≡ old.items ++ text)
  pub spare : OnOk result (vec_len new + tags ≤ vec_capacity new)
  pub unchanged : OnErr result (new.items ≡ old.items)
  pub memory : OnErr result (result ≡ Err Memory)
  pub grown : OnErr result (vec_capacity old < vec_len old + (length text + tags))
  pub room : vec_capacity old ≤ vec_capacity new
