use Rattle.std.proofs.Common.{sym, decimal, lit<}
use Rattle.std.proofs.lemmas.Str.Pattern.{strip_prefix_char}
use Rattle.simulator.proofs.words.replica_of.Goals as goal

pub returns-in_err-strip_prefix : goal.returns-in_err-strip_prefix
returns-in_err-strip_prefix c =
    let other =
    strip_prefix_char 114 c.args.word.now c.strip_prefix.result c.strip_prefix.ensures.cases (lit< tt) in
    let none = rw c.in_err-strip_prefix.was at other in
    rw c.from_residual.ensures (λ replica small spelled. none (decimal replica) (sym spelled))
