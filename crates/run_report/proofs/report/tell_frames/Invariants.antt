use Rattle.std.proofs.Common.{◌≡◌, ◌+◌, ◌++◌, drop}
use Rattle.run_report.specs.Reports.{frames_text}
use Rattle.run_report.proofs.report.tell_frames.Given as goal

abbrev pub invariant-loop-sent : goal.invariant-loop-sent
invariant-loop-sent l = record {
  at : l.number ≡ l.first + l.sent-index;
  told : l.text.items ++ frames_text l.number (drop l.sent-index l.frames)
      ≡ l.fn.text.items ++ frames_text l.first l.frames;
}
