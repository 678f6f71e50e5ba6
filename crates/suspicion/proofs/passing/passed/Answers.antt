use Rattle.std.proofs.Common.{arith}
use Rattle.suspicion.proofs.Passed.{alone, as_before, with_before}
use Rattle.suspicion.proofs.passing.passed.Goals as goal

pub returns-then-len-most-clause-set : goal.returns-then-len-most-clause-set
returns-then-len-most-clause-set c =
    with_before c.args.most c.args.before c.args.found c.or-both.result c.or-both.ensures
    (omega (arith, c.if-len-most.true, c.len.ensures.size))

pub returns-then-len-most-2-clause-set : goal.returns-then-len-most-2-clause-set
returns-then-len-most-2-clause-set c =
    alone c.args.most c.args.before c.args.found c.or-both.result c.or-both.ensures
    (omega (arith, c.if-len-most.false, c.len.ensures.size))
    (omega (arith, c.if-len-most-2.true, c.len-else-len-most.ensures.size))

pub returns-else-len-most-2-clause-set : goal.returns-else-len-most-2-clause-set
returns-else-len-most-2-clause-set c =
    as_before c.args.most c.args.before c.args.found c.or-both.result c.or-both.ensures
    (omega (arith, c.if-len-most.false, c.len.ensures.size))
    (omega (arith, c.if-len-most-2.false, c.len-else-len-most.ensures.size))
