-- What is lent from a line.
use Rattle.std.proofs.Common.{◌≡◌, ℕ, ◌+◌, arith, Some, None}
use Rattle.std.specs.Prelude.{Option, IfSome, IsSome}
use Rattle.std.specs.Borrow.{Bor}
use Rattle.definitions.specs.Bytes.{Bytes}
use Rattle.definitions.specs.Slices.{LentAt}
use Rattle.definitions.proofs.Slices.{LentAt-within, LentAt-same}
use Rattle.mc_lines.specs.Meaning.{LentIn}

-- what is lent from the rest of a line is lent from the line
pub key_lent : (line : Bor Bytes) (rest : Option (Bor Bytes)) (key : Bor Bytes) (i j : ℕ) → i ≡ j
    → IfSome rest (λ r. LentAt line i r) → LentIn rest 0 key → LentAt line j key
key_lent line None key i j e behind there = absurd there
key_lent line (Some rest) key i j e behind there =
    LentAt-same line key (i + 0) j (omega arith) (LentAt-within line rest key i 0 behind there)

-- what isn't there isn't some
pub not_some : {A : Type 0} (o : Option A) → None ≡ o → IsSome o → ⊥
not_some None e h = absurd cc
not_some (Some x) e h = absurd cc
