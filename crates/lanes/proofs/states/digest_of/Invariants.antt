use Rattle.std.proofs.Common.{◌≡◌, ◌*◌, length, take}
use Rattle.sha2.specs.Sha256.{digest_bytes}
use Rattle.lanes.specs.Lanes.{state_lane}
use Rattle.lanes.proofs.states.digest_of.Given as goal

abbrev pub invariant-loop-i : goal.invariant-loop-i
invariant-loop-i l = (length l.out ≡ 32) × (take (4 * l.i) l.out ≡ digest_bytes (state_lane l.state l.lane) l.i)
