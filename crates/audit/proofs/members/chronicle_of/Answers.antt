use Rattle.std.proofs.Common.{sym, subst, ◌∙◌}
use Rattle.audit.proofs.ByNumber.{IsFound, found}
use Rattle.audit.proofs.members.chronicle_of.Goals as goal

pub returns-in_err-replica : goal.returns-in_err-replica
returns-in_err-replica c =
    rw c.from_residual.ensures
    (subst (IsFound c.args.replicas.now c.args.number) (sym c.in_err-replica.ensures)
    (found c.args.replicas.now c.args.number))

pub returns : goal.returns
returns c =
    let f = subst (IsFound c.args.replicas.now c.args.number) (sym c.in_ok-replica.ensures)
    (found c.args.replicas.now c.args.number) in (f.0, c.chronicle.ensures ∙ sym f.1)
