use Rattle.std.proofs.Common.{arith}
use Rattle.std.specs.Prelude.{option_map}
use Rattle.letters.specs.Letters.{letter_of}
use Rattle.letters.proofs.Exact.{is_read}
use Rattle.letters.proofs.reading.read.Goals as goal

pub returns-clause-value : goal.returns-clause-value
returns-clause-value c =
    is_read c.args.text.now (option_map letter_of c.whole.result) (λ i. omega (arith, c.type_inv.text i))
    c.whole.ensures.read
