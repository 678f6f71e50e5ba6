-- A NewView grows by the votes.
use Rattle.definitions.specs.Frames.{new_view, spelling}
use Rattle.worked_examples.proofs.FrameSizes.{by_votes, length-new_view}
use Rattle.worked_examples.proofs.frames.sizes_of_votes_new_views_and_fetches_for_four_replicas.Goals as goal

pub returns-clause-new_view : goal.returns-clause-new_view
returns-clause-new_view c sizes view sender q vector four h =
    by_votes q (spelling (new_view view sender q vector)) 173
    (length-new_view sizes four view sender q vector h)
