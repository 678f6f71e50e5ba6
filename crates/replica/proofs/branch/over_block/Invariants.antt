use Rattle.std.proofs.Common.{◌≡◌, drop, reverse}
use Rattle.definitions.specs.Branches.{Branch}
use Rattle.replica.specs.Locked.{HasBlock, over_in}
use Rattle.replica.proofs.Locked.{over_of}
use Rattle.replica.proofs.branch.over_block.Given as goal

abbrev pub invariant-loop-older : goal.invariant-loop-older
invariant-loop-older l =
    (y : Branch) → HasBlock l.tree.stored y l.lower
    → over_in y l.tree.stored ≡ over_of y (drop l.older (reverse l.tree.stored))
