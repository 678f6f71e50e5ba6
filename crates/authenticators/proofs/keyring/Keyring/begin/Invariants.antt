-- The groups so far have begun.
use Rattle.std.proofs.Common.{◌≡◌, ◌<◌, ◌+◌, ◌*◌, ℕ, length}
use Rattle.ids.specs.Sizes.{replicas}
use Rattle.lanes.specs.Lanes.{group_lane}
use Rattle.definitions.specs.Keyrings.{keyring_of}
use Rattle.authenticators.specs.Keyed.{begun_for}
use Rattle.authenticators.proofs.keyring.Keyring.begin.Given as goal

abbrev pub invariant-loop-g : goal.invariant-loop-g
invariant-loop-g l = record {
  long : length l.groups ≡ length l.fn.groups;
  lanes : (let ring = keyring_of l.self in (g j : ℕ) → g < l.g → j < 4 → 4 * g + j < replicas l.self.sizes
      → group_lane l.groups g j ≡ begun_for ring l.label (4 * g + j) l.content);
}
