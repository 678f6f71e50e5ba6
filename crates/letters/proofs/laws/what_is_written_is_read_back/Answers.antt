use Rattle.letters.proofs.OneText.{back_exactly}
use Rattle.letters.proofs.laws.what_is_written_is_read_back.Goals as goal

pub returns : goal.returns
returns c = back_exactly
