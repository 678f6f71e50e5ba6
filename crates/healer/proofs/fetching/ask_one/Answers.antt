use Rattle.healer.proofs.Asking.{asks-one}
use Rattle.healer.proofs.fetching.ask_one.Goals as goal

pub returns-clause-came : goal.returns-clause-came
returns-clause-came c =
    asks-one c.args.block c.args.replica c.args.to c.sent-before.result c.args.correct.now c.args.healer.now
    c.take.new.self c.deliver_since.new.healer c.deliver_since.result c.sent-before.ensures c.in_ok-take.ensures.taken
    c.deliver_since.ensures.came
