use Rattle.state_marks.proofs.Reading.{mark_read}
use Rattle.state_marks.proofs.mark.read_mark.Goals as goal

pub returns : goal.returns
returns c =
    mark_read c.args.party c.args.text.now c.in_ok-behind_party.field-0.now c.number_of.result
    c.in_ok-behind_party.ensures c.number_of.ensures
