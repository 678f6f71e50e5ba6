use Rattle.std.proofs.Common.{◌≡◌, ◌++◌, drop}
use Rattle.std.specs.List.{flat_map}
use Rattle.run_report.specs.Reports.{receipt_text}
use Rattle.run_report.proofs.report.tell_receipts.Given as goal

abbrev pub invariant-loop-accepted : goal.invariant-loop-accepted
invariant-loop-accepted l =
    l.text.items ++ flat_map receipt_text (drop l.accepted-index l.receipts)
    ≡ l.fn.text.items ++ flat_map receipt_text l.receipts
