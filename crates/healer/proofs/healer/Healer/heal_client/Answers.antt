use Rattle.healer.proofs.Served.{turn-some, turn-none}
use Rattle.healer.proofs.healer.Healer.heal_client.Goals as goal

pub returns-in-Some-clause-turn : goal.returns-in-Some-clause-turn
returns-in-Some-clause-turn c =
    turn-some c.args.client c.in-Some.request c.args.self.now c.heal.new.self c.heal.result c.in-Some.ensures
    c.heal.ensures.came

pub returns-in-None-clause-turn : goal.returns-in-None-clause-turn
returns-in-None-clause-turn c = turn-none c.args.client c.args.self.now c.in-None.ensures
