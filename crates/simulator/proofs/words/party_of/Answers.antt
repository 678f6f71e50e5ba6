use Rattle.std.proofs.Common.{lit<}
use Rattle.std.proofs.lemmas.Str.Pattern.{strip_prefix_char}
use Rattle.simulator.proofs.Fields.{no_party}
use Rattle.simulator.proofs.words.party_of.Goals as goal

pub returns-in_err-replica_of-in-None : goal.returns-in_err-replica_of-in-None
returns-in_err-replica_of-in-None c =
    let other =
    strip_prefix_char 99 c.args.word.now c.strip_prefix.result c.strip_prefix.ensures.cases (lit< tt) in
    let none = rw c.in-None.is at other in
    rw c.from_residual-in_err-replica_of-in-None.ensures
    (no_party c.args.word.now none c.in_err-replica_of-in-None.ensures)
