use Rattle.std.proofs.Common.{◌++◌, ◌∙◌, sym}
use Rattle.std.proofs.lemmas.Result.{err_from_is_err_and}
use Rattle.run_report.specs.Names.{replica_text}
use Rattle.simulator.specs.Texts.{IsBelow}
use Rattle.simulator.proofs.Readings.{unread_plain}
use Rattle.simulator.proofs.Sources.{gathering_cut, none_behind, some_behind, no_sources}
use Rattle.simulator.proofs.ground_lines.gathering_of.Goals as goal

pub returns-in_default : goal.returns-in_default
returns-in_default c = λ g fits spelled.
    unread_plain replica_text (IsBelow 256) _ c.replica_of.result c.in_default.not-Some c.replica_of.ensures
    g.0 fits.0 (gathering_cut _ _ _ c.cut_word.ensures g fits spelled).0

pub returns-then-is_none : goal.returns-then-is_none
returns-then-is_none c = none_behind _ _ c.cut_word.result.1 c.cut_word.ensures c.if-is_none.ensures

pub returns-in_err-sources : goal.returns-in_err-sources
returns-in_err-sources c =
    let p = err_from_is_err_and c.from_residual.result c.from_residual.ensures.1 in
    rw (p.1, p.2)
    (no_sources _ _ _ c.cut_word.ensures c.in_err-sources.field-0.0 c.in_err-sources.ensures)

pub returns : goal.returns
returns c =
    let to = c.in-Some.ensures in
    let sources = c.in_ok-sources.ensures in (
      (
        to.0,
        sources.0,
        some_behind c.in_ok-sources.sources.items c.cut_word.result.1 c.if-is_none.ensures sources.1,
      ),
      (λ i. to.1 i ++ sources.1 i) ∙ sym c.cut_word.ensures.whole,
    )
