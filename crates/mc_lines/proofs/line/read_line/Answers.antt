use Rattle.std.specs.Prelude.{codes}
use Rattle.mc_lines.specs.Fields.{parts_after}
use Rattle.mc_lines.specs.Heads.{head_of}
use Rattle.mc_lines.proofs.LineLaws.{unknown_name, known_name, line_is, name_is, no_form, head_place-name}
use Rattle.mc_lines.proofs.Parts.{bytes_differ}
use Rattle.mc_lines.proofs.Places.{key_lent}
use Rattle.mc_lines.proofs.line.read_line.Goals as goal

pub returns-in_default-clause-value : goal.returns-in_default-clause-value
returns-in_default-clause-value c =
    unknown_name c.args.line.now c.cut.result.0.now (parts_after c.cut.result.1) c.cut.ensures.fields (cc)

pub returns-in-Some-head_by_name-clause-value : goal.returns-in-Some-head_by_name-clause-value
returns-in-Some-head_by_name-clause-value c =
    line_is c.args.line.now c.cut.result.0.now (parts_after c.cut.result.1) c.in-Some.name
    (head_of c.in-Some-head_by_name.head) c.in-Some-head_by_name.noreply
    c.cut.ensures.fields (cc) c.in-Some-head_by_name.ensures.value

pub returns-in-Some-head_by_name-clause-lent : goal.returns-in-Some-head_by_name-clause-lent
returns-in-Some-head_by_name-clause-lent c =
    key_lent c.args.line c.cut.result.1 _ _ _
    (head_place-name c.in-Some-head_by_name.head c.in-Some-head_by_name.noreply c.cut.result.0.now
    (name_is c.cut.result.0.now (parts_after c.cut.result.1) c.in-Some.name
    (head_of c.in-Some-head_by_name.head) c.in-Some-head_by_name.noreply (cc)
    c.in-Some-head_by_name.ensures.value))
    c.cut.ensures.behind c.in-Some-head_by_name.ensures.lent

pub returns-else-eq-clause-value : goal.returns-else-eq-clause-value
returns-else-eq-clause-value c = (
  known_name c.args.line.now c.cut.result.0.now (parts_after c.cut.result.1) c.in-Some.name
      c.cut.ensures.fields (cc),
  bytes_differ c.args.line.now (codes "quit") c.as_slice.result.now c.if-eq.ensures c.as_slice.ensures,
  no_form c.args.line.now c.cut.result.0.now (parts_after c.cut.result.1) c.in-Some.name
      c.cut.ensures.fields (cc) c.in-None.ensures.value,
)
