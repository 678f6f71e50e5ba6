use Rattle.frame_record.proofs.Batches.{is-a-beginning}
use Rattle.frame_record.proofs.laws.a_batch_is_a_beginning.Goals as goal

pub returns : goal.returns
returns c = is-a-beginning
