use Rattle.ids.specs.declared.limits.TheConstants.{MOST_LINE}
use Rattle.std.proofs.Common.{take, subst}
use Rattle.definitions.specs.Requests.{crlf}
use Rattle.memchr.specs.Find.{FindsNeedle}
use Rattle.mc_lines.proofs.Ends.{end_found, end_missing}
use Rattle.mc_lines.proofs.read.line_end.Goals as goal

pub returns-clause-found : goal.returns-clause-found
returns-clause-found c = end_found c.args.bytes.now MOST_LINE c.find.result
    (subst (λ m. FindsNeedle (take m c.args.bytes.now) crlf 0 c.find.result) c.min.ensures c.find.ensures)

pub returns-clause-none : goal.returns-clause-none
returns-clause-none c = end_missing c.args.bytes.now MOST_LINE c.find.result
    (subst (λ m. FindsNeedle (take m c.args.bytes.now) crlf 0 c.find.result) c.min.ensures c.find.ensures)
