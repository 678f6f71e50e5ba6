use Rattle.std.proofs.Common.{◌≡◌, [], ◌∷◌, decimal, rules}
use Rattle.deployment.proofs.Reading.{behind_both, behind_neither}
use Rattle.deployment.proofs.fields.behind_number.Goals as goal

pub returns-in_err-rest : goal.returns-in_err-rest
returns-in_err-rest c =
    let digits : c.as_bytes.result.now ≡ decimal c.args.number = search rules in
    rw c.from_residual.ensures (behind_neither (decimal c.args.number) (32 ∷ []) c.args.text.now
    (rw digits at c.in_err-rest.ensures))

pub returns : goal.returns
returns c =
    let digits : c.as_bytes.result.now ≡ decimal c.args.number = search rules in
    behind_both (decimal c.args.number) (32 ∷ []) c.args.text.now c.in_ok-rest.rest.now _
    (rw digits at c.in_ok-rest.ensures) c.behind-2.ensures
