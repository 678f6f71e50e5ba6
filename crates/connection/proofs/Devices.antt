-- What is appended, read and written.
use Rattle.std.proofs.Common.{ℕ, ◌+◌, ◌<◌, ◌≤◌, length, take, drop, Option, Result, Ok, Err, refl, sym}
use Rattle.std.proofs.Common.{subst, arith}
use Rattle.std.proofs.Math.Seq.{take-add}
use Rattle.std.proofs.KnownBytes.{Appends-trans}
use Rattle.std.specs.Prelude.{IsOk, Vec, vec_len, vec_capacity}
use Rattle.std.specs.Io.KnownBytes.{Appends}
use Rattle.std.specs.declared.alloc.Global.{Global}
use Rattle.ids.specs.declared.fault.Fault.{Fault}
use Rattle.definitions.specs.Bytes.{Bytes}
use Rattle.definitions.specs.Writing.{IsAppended}

-- where there is room, what appends succeeds
pub appends_with_room : {T : Type 0} (old new : Vec ℕ Global) (text : Bytes) (result : Result T Fault)
    → IsAppended old new text result → vec_len old + length text ≤ vec_capacity old → IsOk result
appends_with_room old new text (Ok x) h room = refl
appends_with_room old new text (Err e) h room = absurd (less h.grown room)
  where
    less : {m n : ℕ} → m < n → n ≤ m → ⊥
    less p q = omega (arith, p, q)

-- the front, and what follows it
pub Appends-more : (a b c : Option Bytes) (bytes : Bytes) (at n : ℕ) → Appends a b (take at bytes)
    → Appends b c (take n (drop at bytes)) → Appends a c (take (at + n) bytes)
Appends-more a b c bytes at n p q =
    subst (λ (t : Bytes). Appends a c t) (sym (take-add at n bytes))
    (Appends-trans a b c (take at bytes) (take n (drop at bytes)) p q)
