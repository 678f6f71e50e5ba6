use Rattle.state_marks.proofs.Histories.{one_life}
use Rattle.state_marks.proofs.laws.who_has_spoken_never_begins_again.Goals as goal

pub returns : goal.returns
returns c = one_life
