use Rattle.healer.proofs.Asked.{other-not-asked}
use Rattle.healer.proofs.requests.is_asked.Goals as goal

pub returns-in_default : goal.returns-in_default
returns-in_default c = other-not-asked c.args.client c.args.session.now.session c.args.frame.now c.in_default.not-Request
