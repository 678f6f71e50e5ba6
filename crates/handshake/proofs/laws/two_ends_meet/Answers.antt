use Rattle.handshake.proofs.Meeting.{they_meet}
use Rattle.handshake.proofs.laws.two_ends_meet.Goals as goal

pub returns : goal.returns
returns c = they_meet
