-- The lemma of this name.
use Rattle.linear_law.proofs.Submissions.{receipts-name}
use Rattle.linear_law.proofs.receipts_name_commands.Goals as goal

pub returns : goal.returns
returns c = receipts-name
