use Rattle.state_marks.proofs.Histories.{all_rise}
use Rattle.state_marks.proofs.laws.no_number_is_given_twice.Goals as goal

pub returns : goal.returns
returns c = all_rise
