use Rattle.std.proofs.Common.{rules, arith}
use Rattle.server.proofs.Filling.{filled}
use Rattle.server.proofs.Lending.{IsAt, all_are_lent, windows_said, windows_refused}
use Rattle.server.proofs.judging.judge_shown.Goals as goal

pub returns-clause-verdict : goal.returns-clause-verdict
returns-clause-verdict c =
    let filling = c.from_fn-lent.ensures.items in
    let each = filled _ _ (IsAt c.args.all.now) (λ i y q call. search rules) c.from_fn-lent.result 0 31
    filling.each in
    windows_said c.args.all.now _ c.judge_windows.result
    (all_are_lent c.from_fn-lent.result c.args.all.now (omega (arith, c.requires, filling.long))
    (λ k d lt. each k d (omega arith) (omega (arith, lt, c.requires))))
    c.judge_windows.ensures.judged c.judge_windows.ensures.verdict c.judge_windows.ensures.agree

pub returns-clause-few : goal.returns-clause-few
returns-clause-few c =
    let filling = c.from_fn-lent.ensures.items in
    let each = filled _ _ (IsAt c.args.all.now) (λ i y q call. search rules) c.from_fn-lent.result 0 31
    filling.each in
    windows_refused c.args.all.now _ c.judge_windows.result
    (all_are_lent c.from_fn-lent.result c.args.all.now (omega (arith, c.requires, filling.long))
    (λ k d lt. each k d (omega arith) (omega (arith, lt, c.requires))))
    c.judge_windows.ensures.judged
