use Rattle.healer.proofs.Agreeing.{agrees}
use Rattle.healer.proofs.heal.agree_under.Goals as goal

pub returns-clause-came : goal.returns-clause-came
returns-clause-came c =
    agrees c.args.request c.args.leader c.in_ok-view.view c.args.ground.now.height c.in_ok-count.count
    c.args.ground.now.lock c.args.correct.now c.deref.result.now c.args.ground.now.digests.items
    c.args.healer.now c.come_to.new.healer
    c.make_first.new.healer c.fetch_all.new.healer c.lead_with.new.healer c.rounds.new.healer c.rounds.result
    c.deref.ensures.value c.in_ok-view.ensures c.in_ok-come_to.ensures.came c.in_ok-make_first.ensures.came c.in_ok-fetch_all.ensures.came
    c.in_ok-lead_with.ensures.leads c.in_ok-count.ensures c.rounds.ensures.came
