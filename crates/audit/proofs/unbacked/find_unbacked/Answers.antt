use Rattle.std.proofs.Common.{◌≡◌, None, subst, arith, take_all}
use Rattle.std.specs.Prelude.{All}
use Rattle.std.specs.Borrow.{Bor}
use Rattle.definitions.specs.Audit.{chronicle_of, step_after}
use Rattle.replica.specs.Steps.{Held}
use Rattle.audit.specs.Judged.{judged}
use Rattle.audit.specs.Fronts.{cut_of}
use Rattle.audit.proofs.Missing.{none-unbacked}
use Rattle.audit.proofs.unbacked.find_unbacked.Goals as goal

pub returns : goal.returns
returns c =
    let rs = c.args.replicas.now in
    let k = cut_of c.fronts-fronts.result in
    let P : Bor Held → Type 0 =
    λ r. step_after (k r.now.keys.party) (chronicle_of (judged rs) r.now.keys.party) ≡ None in
    none-unbacked rs k c.fronts-fronts.ensures
    (subst (All P) (take_all c.loop-replica.replica-index rs (omega (arith, c.loop-replica-test.false)))
    c.loop-replica.invariant)
