use Rattle.healer.proofs.Making.{rounds-go}
use Rattle.healer.proofs.blocks.rounds.Goals as goal

pub returns-clause-came : goal.returns-clause-came
returns-clause-came c =
    rounds-go c.args.count c.args.leader c.args.correct.now c.args.healer.now c.round.new.healer c.round-2.new.healer
    c.round-3.new.healer c.round-4.new.healer c.round-4.result c.in_ok-round.ensures.came c.in_ok-round-2.ensures.came
    c.in_ok-round-3.ensures.came c.round-4.ensures.came
