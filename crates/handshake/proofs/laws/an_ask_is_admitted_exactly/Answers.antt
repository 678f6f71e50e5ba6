use Rattle.handshake.proofs.Named.{named, only_named}
use Rattle.handshake.proofs.laws.an_ask_is_admitted_exactly.Goals as goal

pub returns : goal.returns
returns c = λ e greeted bytes peer answer fits are.
    (named e greeted bytes peer answer are, only_named e greeted bytes peer answer fits)
