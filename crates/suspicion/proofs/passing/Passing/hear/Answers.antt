use Rattle.std.proofs.Common.{rules}
use Rattle.suspicion.proofs.Passed.{is_heard}
use Rattle.suspicion.proofs.passing.Passing.hear.Goals as goal

pub returns : goal.returns
returns c =
    is_heard c.args.self.now c.note.new.self c.find.new.self c.args.from c.args.voters.now c.believed-voters.result
    (search rules) c.note.ensures c.believed-voters.ensures c.find.ensures
