-- A certificate grows by its votes.
use Rattle.definitions.specs.Frames.{certificate_bytes}
use Rattle.worked_examples.proofs.FrameSizes.{by_votes, length-certificate_bytes}
use Rattle.worked_examples.proofs.frames.sizes_of_the_parts_for_four_replicas.Goals as goal

pub returns-clause-certificate : goal.returns-clause-certificate
returns-clause-certificate c sizes q four h =
    by_votes q (certificate_bytes q) 33 (length-certificate_bytes sizes four q h)
