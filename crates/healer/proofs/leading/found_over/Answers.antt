use Rattle.std.proofs.Common.{◌≡◌, arith, sym}
use Rattle.definitions.specs.Chronicles.{horizon}
use Rattle.healer.proofs.leading.found_over.Goals as goal

pub returns-else-horizon-gt0 : goal.returns-else-horizon-gt0
returns-else-horizon-gt0 c =
    let z : horizon c.args.replica.now.replica.chronicle ≡ 0 = omega (arith, c.horizon.ensures, c.horizon-2.view_is, c.if-horizon-gt0.false) in
    record {
      found = c.over_lock.ensures.found z;
      high = sym (c.over_lock.ensures.high z);
      whole = z;
    }
