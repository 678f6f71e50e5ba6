-- What is told so far, with what is told of what is left, is what is told of the whole run.
use Rattle.std.proofs.Common.{◌≡◌, ◌+◌, ◌++◌, length, drop}
use Rattle.run_report.specs.Reports.{events_text}
use Rattle.run_report.proofs.report.text_of.Given as goal

abbrev pub invariant-loop-before : goal.invariant-loop-before
invariant-loop-before l = record {
  left : l.number + length l.frames ≡ length l.outcome.frames.items;
  told : l.text.items
      ++ events_text (l.before + 1) l.number (drop l.before l.outcome.answers.items) l.frames l.receipts
      ≡ events_text 1 0 l.outcome.answers.items l.outcome.frames.items l.outcome.receipts.items;
}
