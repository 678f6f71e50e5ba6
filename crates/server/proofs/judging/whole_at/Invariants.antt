use Rattle.std.proofs.Common.{◌≡◌, drop}
use Rattle.std.specs.List.{slice_get}
use Rattle.server.specs.Ends.{whole_of}
use Rattle.server.proofs.judging.whole_at.Given as goal

-- it is looked for among those that are left
abbrev pub invariant-loop-one : goal.invariant-loop-one
invariant-loop-one l = slice_get (whole_of (drop l.one-index l.all)) l.left ≡ slice_get (whole_of l.all) l.place
