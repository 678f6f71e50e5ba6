use Rattle.std.proofs.Common.{◌≡◌, refl, subst, arith, Ok, Result}
use Rattle.ids.specs.declared.fault.Fault.{Fault}
use Rattle.definitions.specs.WindowAudit.{WindowsShow}
use Rattle.audit_ground.proofs.Shown.{agreeing-windows_are_right, forking-windows_are_right}
use Rattle.audit.specs.declared.verdict.WindowVerdict.{WindowVerdict}
use Rattle.audit.specs.declared.verdict.WindowVerdict.TheVariants.{Agree, Fork}
use Rattle.audit.specs.Judged.{judged}
use Rattle.audit.specs.Verdicts.{window_verdict_of}
use Rattle.audit.proofs.Held.{are-judged}
use Rattle.audit.proofs.windows.judge_windows.Goals as goal

-- the verdict that is answered
answered : (r : Result WindowVerdict Fault) (v w : WindowVerdict) → r ≡ Ok v → r ≡ Ok w → v ≡ w
answered r v w e i = cc

pub leader-requires : goal.leader-requires
leader-requires c = let q = (c.if-not-are_enough.ensures.0 refl).enough in omega (arith, q)

pub returns-clause-agree : goal.returns-clause-agree
returns-clause-agree c = λ is apart.
    let rs = c.args.replicas.now in
    let e = c.if-not-are_enough.ensures.0 refl in
    agreeing-windows_are_right e.sizes (judged rs) (are-judged rs e c.hold.ensures).kept apart
    (subst (λ (v : WindowVerdict). WindowsShow (judged rs) (window_verdict_of v))
    (answered _ c.compare.result Agree refl is) c.compare.ensures)

pub returns-clause-fork : goal.returns-clause-fork
returns-clause-fork c = λ a b is.
    let rs = c.args.replicas.now in
    forking-windows_are_right (judged rs) a b
    (subst (λ (v : WindowVerdict). WindowsShow (judged rs) (window_verdict_of v))
    (answered _ c.compare.result (Fork a b) refl is) c.compare.ensures)
