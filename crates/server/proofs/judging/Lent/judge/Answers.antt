use Rattle.std.proofs.Common.{rules, arith}
use Rattle.server.proofs.Filling.{filled}
use Rattle.server.proofs.Lending.{StandsAt, are_lent, audit_said, audit_refused}
use Rattle.server.proofs.judging.Lent.judge.Goals as goal

pub returns-clause-verdict : goal.returns-clause-verdict
returns-clause-verdict c replicas shows many =
    let filling = c.from_fn-lent.ensures.items in
    let each = filled _ _ (StandsAt c.args.self.row.now) (λ i y q call. search rules) c.from_fn-lent.result 0 31
    filling.each in
    audit_said replicas _ c.judge.result
    (are_lent c.args.self.row.now replicas c.from_fn-lent.result shows filling.long each c.min.result
    (omega (arith, c.min.ensures, many, shows.room)))
    c.judge.ensures.judged c.judge.ensures.verdict

pub returns-clause-few : goal.returns-clause-few
returns-clause-few c replicas shows many =
    let filling = c.from_fn-lent.ensures.items in
    let each = filled _ _ (StandsAt c.args.self.row.now) (λ i y q call. search rules) c.from_fn-lent.result 0 31
    filling.each in
    audit_refused replicas _ c.judge.result
    (are_lent c.args.self.row.now replicas c.from_fn-lent.result shows filling.long each c.min.result
    (omega (arith, c.min.ensures, many, shows.room)))
    c.judge.ensures.judged
