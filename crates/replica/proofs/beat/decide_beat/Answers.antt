use Rattle.std.proofs.Common.{sym, subst, Option}
use Rattle.std.specs.Option.{option_or}
use Rattle.replica.specs.Kept.{Own, IsFitOwn}
use Rattle.replica.proofs.Sized.{made-sized}
use Rattle.replica.proofs.beat.decide_beat.Goals as goal

pub last_out-requires : goal.last_out-requires
last_out-requires c =
    let keys = c.args.keyring.now in
    let s = c.args.state.now in
    record {
      certified = subst (λ (o : Option Own). IsFitOwn keys.sizes (option_or o s.variables.own))
          (sym c.in_ok-made.ensures.made) (made-sized keys s c.requires.certified);
    }
