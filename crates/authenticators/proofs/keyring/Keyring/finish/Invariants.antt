-- The groups so far are done, and the others are as they were.
use Rattle.std.proofs.Common.{◌≡◌, ◌<◌, ◌≤◌, ◌+◌, ◌*◌, ℕ, [], length, slice_index_or}
use Rattle.ids.specs.Sizes.{replicas}
use Rattle.sha2.specs.Sha256.{digest_bytes}
use Rattle.lanes.specs.Lanes.{group_lane}
use Rattle.lanes.specs.Texts.{after_text}
use Rattle.definitions.specs.Bytes.{Bytes}
use Rattle.definitions.specs.Tags.{hmac}
use Rattle.definitions.specs.Keyrings.{keyring_of}
use Rattle.authenticators.specs.Keyed.{after_key}
use Rattle.authenticators.proofs.keyring.Keyring.finish.Given as goal

abbrev pub invariant-loop-g : goal.invariant-loop-g
invariant-loop-g l = record {
  long : length l.groups ≡ length l.fn.groups;
  done : (let ring = keyring_of l.self in (g j : ℕ) (text : Bytes) → g < l.g → j < 4 → 4 * g + j < replicas l.self.sizes
      → group_lane l.fn.groups g j ≡ after_text (after_key 0x36 (ring.key (4 * g + j))) text
      → digest_bytes (group_lane l.groups g j) 8 ≡ hmac (ring.key (4 * g + j)) text);
  left : (g : ℕ) → l.g ≤ g → slice_index_or l.groups g [] ≡ slice_index_or l.fn.groups g [];
}
