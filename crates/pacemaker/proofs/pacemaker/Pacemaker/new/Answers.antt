use Rattle.std.proofs.Common.{arith}
use Rattle.pacemaker.proofs.Reached.{paced-none}
use Rattle.pacemaker.proofs.pacemaker.Pacemaker.new.Goals as goal

pub returns-clause-begins : goal.returns-clause-begins
returns-clause-begins c = paced-none c.args.config (omega (arith, c.n-n.ensures.count, c.n-n.ensures.most))
