use Rattle.std.proofs.Common.{◌≡◌, ◌≤◌, take, length, vec_capacity}
use Rattle.authenticators.proofs.keyring.copied.Given as goal

-- the keys so far, and room for all
abbrev pub invariant-loop-key : goal.invariant-loop-key
invariant-loop-key l = (l.copy.items ≡ take l.key-index l.keys) × (length l.keys ≤ vec_capacity l.copy)
