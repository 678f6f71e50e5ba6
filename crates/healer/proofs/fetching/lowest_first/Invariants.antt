use Rattle.std.proofs.Common.{◌≡◌, map, take}
use Rattle.definitions.specs.Branches.{Branch}
use Rattle.definitions.specs.Digests.{digest_of}
use Rattle.recovery.specs.Correct.{chronicle_of}
use Rattle.recovery.specs.Healing.{lowest_first}
use Rattle.healer.specs.Courses.{ToldWhere, HasReplica}
use Rattle.healer.specs.Grounds.{HasWhole}
use Rattle.healer.proofs.fetching.lowest_first.Given as goal

abbrev pub invariant-loop-below : goal.invariant-loop-below
invariant-loop-below l =
    ToldWhere l.healer (HasReplica l.replica) (λ w. (x : Branch) → HasWhole (chronicle_of w l.replica) l.block l.fn.top x
    → l.digests.items ≡ map digest_of (take l.below (lowest_first x)))
