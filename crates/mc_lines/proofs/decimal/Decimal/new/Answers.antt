use Rattle.std.proofs.Common.{arith}
use Rattle.std.proofs.lemmas.Fmt.{length-decimal-le}
use Rattle.mc_lines.proofs.decimal.Decimal.new.Goals as goal

pub write_digits-start-requires : goal.write_digits-start-requires
write_digits-start-requires c =
    (length-decimal-le 20 c.args.n (omega arith) (omega arith) (omega arith), omega arith)
