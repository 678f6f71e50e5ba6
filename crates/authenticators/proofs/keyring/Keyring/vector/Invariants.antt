-- The tags so far are appended, and there is room for the others.
use Rattle.std.proofs.Common.{◌≡◌, ◌++◌, ◌≤◌, ◌+◌, ◌-◌, ◌*◌, vec_capacity, vec_len}
use Rattle.definitions.specs.Keyrings.{keyring_of, tags_for}
use Rattle.authenticators.proofs.keyring.Keyring.vector.Given as goal

abbrev pub invariant-loop-u : goal.invariant-loop-u
invariant-loop-u l = record {
  appended : l.out.items ≡ l.fn.out.items ++ tags_for (keyring_of l.self) l.label l.content l.u;
  room : vec_len l.out + 32 * (l.n - l.u) ≤ vec_capacity l.out;
  kept : vec_capacity l.fn.out ≤ vec_capacity l.out;
}
