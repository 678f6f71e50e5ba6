use Rattle.std.proofs.lemmas.Result.{err_from_is_err_and}
use Rattle.std.proofs.lemmas.List.Elements.{All-push}
use Rattle.simulator.specs.Lines.{IsSource}
use Rattle.simulator.proofs.Sources.{first_source, more_spelled, unspelled}
use Rattle.simulator.proofs.ground_lines.sources_of.Goals as goal

pub returns-in_err-source : goal.returns-in_err-source
returns-in_err-source c =
    let p = err_from_is_err_and c.from_residual.result c.from_residual.ensures.1 in
    rw (p.1, p.2) (unspelled _ c.in-Some.fields.now _ _ c.cut_word.ensures c.in_err-source.field-0.0
    c.in_err-source.ensures
    (λ ss fits spelled.
    let more = c.loop-left.invariant.only ss fits spelled in (more.0, more.1, rw c.in-Some.is at more.2)))

pub loop-left-preserved : goal.loop-left-preserved
loop-left-preserved c =
    let source = c.in_ok-source.ensures in
    rw c.in_ok-push.ensures.items record {
      fit = All-push IsSource c.loop-left.sources.items c.in_ok-source.source c.loop-left.invariant.fit source.0;
      spell = more_spelled c.loop-left.sources.items c.in_ok-source.source _ c.in-Some.fields.now _ _
          c.cut_word.ensures source.1 (rw c.in-Some.is at c.loop-left.invariant.spell);
      only = λ ss fits spelled.
          let more = c.loop-left.invariant.only ss fits spelled in
          let first = first_source c.in-Some.fields.now _ _ c.cut_word.ensures more.0 more.1
          (rw c.in-Some.is at more.2) in
          (first.1, first.2.others_fit, first.2.behind);
    }
