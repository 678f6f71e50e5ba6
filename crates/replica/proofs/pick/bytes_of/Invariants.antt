use Rattle.std.proofs.Common.{◌≡◌, map, take}
use Rattle.std.specs.List.{flat_map}
use Rattle.definitions.specs.Frames.{command_bytes}
use Rattle.replica.proofs.pick.bytes_of.Given as goal

abbrev pub invariant-loop-request : goal.invariant-loop-request
invariant-loop-request l =
    l.bytes.items ≡ flat_map command_bytes (map (λ r. r.now) (take l.request-index l.requests))
