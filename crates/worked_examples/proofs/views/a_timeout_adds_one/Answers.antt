-- The definitions compute.
use Rattle.std.proofs.Common.{refl}
use Rattle.definitions.specs.Lists.{greatest, count_below}
use Rattle.definitions.specs.States.{view, reached_view, announced, announcements}
use Rattle.worked_examples.proofs.views.a_timeout_adds_one.Goals as goal

pub returns-clause-adds : goal.returns-clause-adds
unfolding view reached_view announced announcements greatest count_below
returns-clause-adds c = refl

pub returns-clause-greatest : goal.returns-clause-greatest
unfolding view reached_view announced announcements greatest count_below
returns-clause-greatest c = refl
