use Rattle.std.proofs.Common.{rules, arith}
use Rattle.definitions.specs.Checks.{identity_of}
use Rattle.admission.specs.Inputs.{input_of}
use Rattle.locked_replica.proofs.Gains.{step-counts}
use Rattle.locked_replica.proofs.Growth.{mark_grows}
use Rattle.locked_replica.proofs.kept.Kept.step.Goals as goal

pub returns-clause-counts : goal.returns-clause-counts
returns-clause-counts c =
    step-counts _ _ (identity_of c.self.inside.replica.keys) (input_of c.args.input) _ _
    c.step-outcome.result c.step-outcome.ensures.stepped (search rules)

pub put-requires-clause-more : goal.put-requires-clause-more
put-requires-clause-more c =
    let grows =
    mark_grows (identity_of c.self.inside.replica.keys) (input_of c.args.input)
    c.self.inside.replica.replica c.step-outcome.new.self.replica
    c.step-outcome.result c.step-outcome.ensures.stepped in
    omega (arith, grows, c.self.invariant.1.put, c.executed-length.ensures)
