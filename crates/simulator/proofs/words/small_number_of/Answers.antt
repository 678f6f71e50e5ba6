use Rattle.simulator.proofs.Numbers.{small_is_read}
use Rattle.simulator.proofs.words.small_number_of.Goals as goal

pub returns : goal.returns
returns c = rw c.ok.ensures.value (small_is_read c.args.word.now c.in_ok-number_of.field-0 c.try_from.result
    c.in_ok-number_of.ensures c.try_from.ensures)
