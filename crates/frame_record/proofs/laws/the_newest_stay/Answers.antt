use Rattle.frame_record.proofs.Histories.{keeps-the-newest}
use Rattle.frame_record.proofs.laws.the_newest_stay.Goals as goal

pub returns : goal.returns
returns c = keeps-the-newest
