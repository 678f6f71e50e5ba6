-- The laws of vectors.
use Rattle.definitions.proofs.Vectors.{IsVector-vector_for, tag_of-vector_for}
use Rattle.worked_examples.proofs.frames.each_tag_of_a_vector_is_the_tag_for_its_replica.Goals as goal

pub returns-clause-whole : goal.returns-clause-whole
returns-clause-whole c = IsVector-vector_for

pub returns-clause-each : goal.returns-clause-each
returns-clause-each c = tag_of-vector_for
