use Rattle.std.proofs.Common.{sym, ap, ◌∙◌}
use Rattle.std.specs.Prelude.{bytes_eq}
use Rattle.mc_lines.specs.Fields.{parts_after, noreply_in}
use Rattle.mc_lines.proofs.Parts.{noreply_in-other}
use Rattle.mc_lines.proofs.fields.noreply.Goals as goal

pub returns-else-eq : goal.returns-else-eq
returns-else-eq c =
    noreply_in-other c.in-Some.word.now
    (sym (c.if-eq.ensures ∙ ap (bytes_eq c.in-Some.word.now) c.as_slice.ensures))
    ∙ ap (λ o. noreply_in (parts_after o)) (sym c.in-Some.is)
