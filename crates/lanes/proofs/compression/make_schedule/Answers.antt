use Rattle.std.proofs.Common.{◌∙◌}
use Rattle.lanes.proofs.compression.make_schedule.Goals as goal

pub returns : goal.returns
returns c = λ j b lt words.
    c.add_constants.ensures j b lt (c.next_words.ensures j b lt (λ i low. c.first_words.ensures i j low ∙ words i low))
