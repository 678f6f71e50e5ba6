-- Each grows by the votes.
use Rattle.definitions.specs.Frames.{proposal, block, spelling}
use Rattle.worked_examples.proofs.FrameSizes.{by_votes, length-proposal, length-block}
use Rattle.worked_examples.proofs.frames.sizes_of_frames_with_a_block_for_four_replicas.Goals as goal

pub returns-clause-proposal : goal.returns-clause-proposal
returns-clause-proposal c sizes view k q vector four h none =
    by_votes q (spelling (proposal view k q vector)) 220 (length-proposal sizes four view k q vector h none)

pub returns-clause-block : goal.returns-clause-block
returns-clause-block c sizes sender k q tag four h none =
    by_votes q (spelling (block sender k q tag)) 118 (length-block sizes four sender k q tag h none)
