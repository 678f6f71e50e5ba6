-- The definitions compute.
use Rattle.std.proofs.Common.{refl}
use Rattle.definitions.specs.Lists.{beginning}
use Rattle.definitions.specs.Branches.{justify_height, just1, just2, just3, highest}
use Rattle.definitions.specs.Chronicles.{taken_blocks, lock, decides, decided_by, decided, executed}
use Rattle.worked_examples.proofs.chains.four_blocks_in_succession_decide_the_first.Goals as goal

pub returns-clause-locks : goal.returns-clause-locks
unfolding lock taken_blocks just2 just1 justify_height beginning highest
returns-clause-locks c = refl

pub returns-clause-decides : goal.returns-clause-decides
unfolding executed decided decided_by decides taken_blocks just3 just2 just1 justify_height beginning highest
returns-clause-decides c = refl
