use Rattle.healer.proofs.Making.{asks-again}
use Rattle.healer.proofs.requests.ask_again.Goals as goal

pub returns-clause-came : goal.returns-clause-came
returns-clause-came c =
    asks-again c.args.request c.sent-before.result c.args.correct.now c.args.healer.now c.bring_to_each.new.healer
    c.deliver_since.new.healer c.deliver_since.result c.sent-before.ensures c.in_ok-bring_to_each.ensures.came
    c.deliver_since.ensures.came
