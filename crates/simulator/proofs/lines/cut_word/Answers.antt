use Rattle.std.proofs.Common.{lit<, sym, Some, None}
use Rattle.std.proofs.lemmas.List.{append-nil}
use Rattle.std.proofs.lemmas.Str.Pattern.{split_parts}
use Rattle.simulator.proofs.lines.cut_word.Goals as goal

pub returns-in-Some : goal.returns-in-Some
returns-in-Some c =
    let parts = split_parts 32 c.args.text.now (Some (c.in-Some.word, c.in-Some.rest))
    c.in-Some.ensures.cases (lit< tt) in
    record { whole = parts.0; first = parts.1 }

pub returns-in-None : goal.returns-in-None
returns-in-None c = record {
  whole = sym (append-nil c.args.text.now);
  first = split_parts 32 c.args.text.now None c.in-None.ensures.cases (lit< tt);
}
