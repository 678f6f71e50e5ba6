use Rattle.healer.proofs.Phases.{leads-with}
use Rattle.healer.proofs.leading.lead_with.Goals as goal

pub returns-clause-leads : goal.returns-clause-leads
returns-clause-leads c =
    leads-with c.args.request c.args.leader c.args.block c.args.healer.now c.take.new.self c.bring_to_each.new.healer
    c.bring_to_each.result c.in_ok-take.ensures.taken c.bring_to_each.ensures.came
