-- None before executed highest.
use Rattle.std.proofs.Common.{take}
use Rattle.std.specs.List.{All}
use Rattle.window_files.proofs.Leading.{IsHighest}
use Rattle.window_files.proofs.judging.leader.Given as goal

abbrev pub invariant-loop-window : goal.invariant-loop-window
invariant-loop-window l = All (λ x. IsHighest l.windows x → ⊥) (take l.window-index l.windows)
