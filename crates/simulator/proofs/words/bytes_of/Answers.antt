use Rattle.std.proofs.Common.{◌≡◌, sym, ◌∙◌, ap}
use Rattle.std.proofs.lemmas.Result.{err_from_is_err_and}
use Rattle.std.proofs.lemmas.Slice.Eq.{bytes_eq-Decides}
use Rattle.hex.specs.Hex.{encode_lower}
use Rattle.hex.proofs.HexLemmas.{decode_of-ok}
use Rattle.simulator.proofs.Digits.{not_decoded, other_digits}
use Rattle.simulator.proofs.words.bytes_of.Goals as goal

pub returns-in_err-bytes : goal.returns-in_err-bytes
returns-in_err-bytes c =
    let p = err_from_is_err_and c.from_residual.result c.from_residual.ensures.1 in
    rw (p.1, p.2) (not_decoded c.args.digits.now c.in_err-bytes.field-0.0 (c.in_err-bytes.ensures.err))

pub returns-then-eq : goal.returns-then-eq
returns-then-eq c =
    let written = c.as_str.ensures.value ∙ c.in_ok-again.ensures ∙ ap encode_lower c.as_slice.ensures.value in
    let same = (bytes_eq-Decides c.as_str.result.now c.args.digits.now).0 (sym c.if-eq.ensures) in (
      (decode_of-ok c.args.digits.now c.in_ok-bytes.bytes.items c.in_ok-bytes.ensures.ok).3,
      sym written ∙ same,
    )

pub returns-else-eq : goal.returns-else-eq
returns-else-eq c =
    let written = c.as_str.ensures.value ∙ c.in_ok-again.ensures ∙ ap encode_lower c.as_slice.ensures.value in
    let differ = λ (e : c.args.digits.now ≡ encode_lower c.in_ok-bytes.bytes.items).
    let yes = (bytes_eq-Decides c.as_str.result.now c.args.digits.now).1 (written ∙ sym e) in
    let no = c.if-eq.ensures in
    let never : ⊥ = cc (yes, no) in never in
    λ v fits. other_digits c.args.digits.now c.in_ok-bytes.bytes.items c.in_ok-bytes.ensures.ok differ
    v.items fits
