-- The lemmas of these names.
use Rattle.worked_examples.proofs.OneReplica.{orphan, gap, other_justified, known_block}
use Rattle.worked_examples.proofs.replicas.blocks_that_are_refused.Goals as goal

pub returns : goal.returns
returns c = record { orphan = orphan; gap = gap; justified = other_justified; known = known_block }
