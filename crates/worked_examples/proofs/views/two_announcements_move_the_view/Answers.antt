-- The definitions compute.
use Rattle.std.proofs.Common.{refl}
use Rattle.definitions.specs.Lists.{greatest, count_below}
use Rattle.definitions.specs.States.{view, reached_view, announced, announcements}
use Rattle.worked_examples.proofs.views.two_announcements_move_the_view.Goals as goal

pub returns-clause-alone : goal.returns-clause-alone
unfolding view reached_view announced announcements greatest count_below
returns-clause-alone c = refl

pub returns-clause-together : goal.returns-clause-together
unfolding view reached_view announced announcements greatest count_below
returns-clause-together c = refl

pub returns-clause-lower : goal.returns-clause-lower
unfolding view reached_view announced announcements greatest count_below
returns-clause-lower c = refl
