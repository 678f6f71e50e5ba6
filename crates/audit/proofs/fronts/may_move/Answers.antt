use Rattle.std.proofs.Common.{◌∙◌, sym}
use Rattle.audit.specs.Judged.{judged}
use Rattle.audit.specs.Fronts.{cut_of}
use Rattle.audit.proofs.Missing.{moves, moves-not, none-missing}
use Rattle.audit.proofs.fronts.may_move.Goals as goal

pub returns-in-Some-clause-moves : goal.returns-in-Some-clause-moves
returns-in-Some-clause-moves c =
    let ks = judged c.args.replicas.now in
    let k = cut_of c.args.fronts.now in
    none-missing ks k c.in-Some.step c.missing.result c.missing.ensures c.is_none.result
    c.is_none.ensures
    ∙ sym (moves ks k c.args.number c.in-Some.step c.in-Some.ensures.step)

pub returns-in-None-clause-moves : goal.returns-in-None-clause-moves
returns-in-None-clause-moves c =
    sym (moves-not (judged c.args.replicas.now) (cut_of c.args.fronts.now) c.args.number
    c.in-None.ensures.step)
