use Rattle.std.proofs.Common.{arith}
use Rattle.definitions.proofs.Horizons.{horizon-low}
use Rattle.window_files.proofs.own.head_of.Goals as goal

pub returns-clause-fits : goal.returns-clause-fits
returns-clause-fits c =
    let low = horizon-low c.args.replica.now.replica.chronicle in (
      c.holds-2.ensures,
      rw (c.number.ensures, c.config-config.ensures) c.holds.ensures.number,
      c.number_of-last.type_inv,
      omega (arith, c.max.ensures),
      omega (
        arith,
        low,
        c.max.ensures,
        c.number_of-kept.ensures,
        c.lowest_kept.ensures,
        c.horizon.ensures,
        c.number_of-last.ensures,
        c.height.ensures,
      ),
    )
