use Rattle.std.proofs.Common.{◌-◌, ◌*◌, ℕ, arith}
use Rattle.lanes.proofs.Hashing.{block_within}
use Rattle.lanes.proofs.Windows.{IsWindow_past}
use Rattle.lanes.proofs.blocks.words_behind.Goals as goal

pub returns-then-start-rest : goal.returns-then-start-rest
returns-then-start-rest c = λ j h lt lh.
    let s : ℕ = 64 * c.args.i - c.args.at in
    rw (block_within h c.args.rest.now c.args.i s (omega arith) (omega arith) (omega arith)) at (c.words_of_one.ensures j lt)

pub returns-else-start-rest : goal.returns-else-start-rest
returns-else-start-rest c = λ j h lt lh.
    rw (c.block_of_rest.ensures h lh (IsWindow_past h (64 * c.args.i) (omega arith))) at (c.words_of_one-else-start-rest.ensures j lt)
