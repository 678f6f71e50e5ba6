use Rattle.healer.proofs.Waits.{waits-from}
use Rattle.healer.proofs.Turns.{on-ok-too}
use Rattle.healer.proofs.views.wait_until.Goals as goal

pub returns-clause-waited : goal.returns-clause-waited
returns-clause-waited c =
    on-ok-too _ _ c.wait_from.result
    (waits-from c.args.replica c.view_of-from.result c.args.view c.args.healer.now c.wait_from.new.healer
    c.view_of-from.ensures) c.wait_from.ensures.waited
