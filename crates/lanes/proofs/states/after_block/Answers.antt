use Rattle.std.proofs.Common.{◌∙◌, arith}
use Rattle.lanes.proofs.states.after_block.Goals as goal

pub returns : goal.returns
returns c =
    let b = c.args.block.now in
    c.first_lane.ensures
    ∙ c.compress.ensures 0 b (omega arith) (c.make_schedule.ensures 0 b (omega arith) (c.words_of_one-words.ensures 0 (omega arith)))
