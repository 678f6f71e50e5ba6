-- Blocks that are asked for, by their digests.
use Rattle.std.specs.Prelude.{map}
use Rattle.definitions.specs.Bytes.{Bytes}
use Rattle.recovery.specs.Healing.{Phase, in_turn, fetch_block, lacking}

-- the block of a digest comes to all correct replicas that lack it, one after the other
abbrev pub fetch_by : Bytes → Phase
fetch_by d w = in_turn (map (fetch_block d) (lacking d w)) w
