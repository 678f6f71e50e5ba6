use Rattle.handshake.proofs.Named.{heard_named, only_heard}
use Rattle.handshake.proofs.laws.an_answer_is_heard_exactly.Goals as goal

pub returns : goal.returns
returns c = λ d bytes peer are. (heard_named d bytes peer are, only_heard d bytes peer)
