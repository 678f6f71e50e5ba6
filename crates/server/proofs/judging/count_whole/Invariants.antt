use Rattle.std.proofs.Common.{◌≡◌, ◌≤◌, ◌+◌, length, drop}
use Rattle.server.specs.Ends.{whole_of}
use Rattle.server.proofs.judging.count_whole.Given as goal

-- with those that are left they are as many
abbrev pub invariant-loop-one : goal.invariant-loop-one
invariant-loop-one l = (l.count + length (whole_of (drop l.one-index l.all)) ≡ length (whole_of l.all)) × (l.count ≤ l.one-index)
