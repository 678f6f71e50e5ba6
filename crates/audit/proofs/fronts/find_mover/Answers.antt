use Rattle.std.proofs.Common.{◌≡◌, false, subst, arith, take_all}
use Rattle.std.specs.Prelude.{All}
use Rattle.std.specs.Borrow.{Bor}
use Rattle.definitions.specs.Audit.{may_move}
use Rattle.replica.specs.Steps.{Held}
use Rattle.audit.specs.Judged.{judged}
use Rattle.audit.specs.Fronts.{cut_of}
use Rattle.audit.proofs.Moves.{none-moves}
use Rattle.audit.proofs.fronts.find_mover.Goals as goal

pub returns : goal.returns
returns c =
    let rs = c.args.replicas.now in
    let P : Bor Held → Type 0 =
    λ r. may_move (judged rs) (cut_of c.args.fronts.now) r.now.keys.party ≡ false in
    none-moves rs (cut_of c.args.fronts.now)
    (subst (All P) (take_all c.loop-replica.replica-index rs (omega (arith, c.loop-replica-test.false)))
    c.loop-replica.invariant)
