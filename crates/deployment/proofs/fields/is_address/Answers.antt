use Rattle.std.proofs.Common.{◌≡◌, arith, length, nat_lt, true}
use Rattle.std.proofs.lemmas.Bool.Decides.{nat_tests}
use Rattle.deployment.proofs.fields.is_address.Goals as goal

pub returns-then-not-is_empty : goal.returns-then-not-is_empty
returns-then-not-is_empty c =
    let some : nat_lt 0 (length c.args.bytes.now) ≡ true = grind (arith, nat_tests) in
    rw some c.are_visible.ensures
