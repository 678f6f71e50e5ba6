-- None before lacks it.
use Rattle.std.proofs.Common.{take}
use Rattle.std.specs.List.{All}
use Rattle.window_files.specs.Judging.{Lacks}
use Rattle.window_files.proofs.judging.find.Given as goal

abbrev pub invariant-loop-window : goal.invariant-loop-window
invariant-loop-window l = All (λ x. Lacks l.lack x.now l.leader → ⊥) (take l.window-index l.windows)
