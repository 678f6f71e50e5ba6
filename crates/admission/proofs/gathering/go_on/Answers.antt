use Rattle.std.proofs.Common.{refl}
use Rattle.admission.proofs.Together.{gone_on, gone_wrong, gone_astray}
use Rattle.admission.proofs.gathering.go_on.Goals as goal

pub returns-in_default : goal.returns-in_default
returns-in_default c =
    λ fs a. gone_astray c.args.keyring.now fs c.args.copies a _ c.in_default.not-Block

pub returns-in-Ok : goal.returns-in-Ok
returns-in-Ok c =
    λ fs a. gone_on c.args.keyring.now fs c.args.copies a _ c.in-Block.view _ c.in-Block.is
    (c.in-Ok.ensures.exactly.0 refl) c.in-Ok.ensures.added

pub returns-in-Err : goal.returns-in-Err
returns-in-Err c =
    λ fs a. gone_wrong c.args.keyring.now fs c.args.copies a _ c.in-Block.view _ c.in-Block.is
    c.in-Err.ensures.exactly.1 c.in-Err.ensures.refused.0
