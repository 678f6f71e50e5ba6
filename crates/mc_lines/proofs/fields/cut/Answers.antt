use Rattle.mc_lines.proofs.Parts.{split_at_none, split_at_some}
use Rattle.mc_lines.proofs.fields.cut.Goals as goal

pub returns-in-None-clause-fields : goal.returns-in-None-clause-fields
returns-in-None-clause-fields c = split_at_none _ c.args.line.now c.in-None.ensures

pub returns-in-Some-clause-fields : goal.returns-in-Some-clause-fields
returns-in-Some-clause-fields c = split_at_some _ c.args.line.now c.in-Some.i c.in-Some.ensures
