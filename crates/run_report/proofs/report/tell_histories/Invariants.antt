use Rattle.std.proofs.Common.{◌≡◌, ◌++◌, drop}
use Rattle.std.specs.List.{flat_map}
use Rattle.run_report.specs.Reports.{history_text}
use Rattle.run_report.proofs.report.tell_histories.Given as goal

abbrev pub invariant-loop-history : goal.invariant-loop-history
invariant-loop-history l =
    l.text.items ++ flat_map history_text (drop l.history-index l.histories)
    ≡ l.fn.text.items ++ flat_map history_text l.histories
