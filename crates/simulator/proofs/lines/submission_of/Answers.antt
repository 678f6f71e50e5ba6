use Rattle.std.proofs.Common.{ap, ◌∙◌}
use Rattle.std.proofs.lemmas.Result.{err_from_is_err_and}
use Rattle.hex.specs.Hex.{encode_lower}
use Rattle.simulator.specs.Texts.{spaced}
use Rattle.run_report.specs.Names.{client_text}
use Rattle.simulator.specs.Lines.{AreDigitsOfClient, digits_of_client}
use Rattle.simulator.proofs.Digits.{some_bytes, some_digits}
use Rattle.simulator.proofs.Readings.{unread, no_payload}
use Rattle.simulator.proofs.lines.submission_of.Goals as goal

pub returns-in_default : goal.returns-in_default
returns-in_default c = λ s fits spelled.
    unread _ digits_of_client AreDigitsOfClient c.args.fields.now c.submitter_of.result
    c.in_default.not-Some c.submitter_of.ensures (s.0, encode_lower s.1.items)
    (fits.0, some_digits s.1.items (encode_lower s.1.items) (λ _. encode_lower s.1.items) fits.2) spelled

pub returns-in_err-payload : goal.returns-in_err-payload
returns-in_err-payload c =
    let p = err_from_is_err_and c.from_residual.result c.from_residual.ensures.1 in
    let d = c.in-Some.ensures in
    rw (p.1, p.2) (no_payload c.args.fields.now c.in-Some.read.1.now c.in-Some.read.0 d.0.0 d.1
    c.in_err-payload.field-0.0 c.in_err-payload.ensures)

pub returns : goal.returns
returns c =
    let d = c.in-Some.ensures in
    let v = c.in_ok-payload.ensures in (
      (d.0.0, v.0, some_bytes c.in_ok-payload.payload.items c.in-Some.read.1.now v.1 d.0.1),
      ap (λ t. spaced (client_text c.in-Some.read.0) t) v.1 ∙ d.1,
    )
