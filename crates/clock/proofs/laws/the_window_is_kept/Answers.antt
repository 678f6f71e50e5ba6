use Rattle.clock.proofs.Slower.{keeps-window}
use Rattle.clock.proofs.laws.the_window_is_kept.Goals as goal

pub returns : goal.returns
returns c = keeps-window
