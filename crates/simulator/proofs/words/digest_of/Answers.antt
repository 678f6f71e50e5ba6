use Rattle.std.proofs.Common.{◌≡◌, sym, ◌∙◌, ap, Ok}
use Rattle.hex.specs.Hex.{encode_lower, decode_sized}
use Rattle.simulator.proofs.Digits.{digest_decoded, no_digest, other_digest, is_digest, on_ok, different}
use Rattle.simulator.proofs.Digits.{alike}
use Rattle.simulator.proofs.words.digest_of.Goals as goal

pub returns-in_err-ok : goal.returns-in_err-ok
returns-in_err-ok c =
    rw c.from_residual.ensures
    (no_digest c.args.word.now c.decode_to_slice.result c.decode_to_slice.new.out c.decode_to_slice.ensures.value
    (sym c.ok.ensures.value ∙ c.in_err-ok.was))

pub returns-then-ne : goal.returns-then-ne
returns-then-ne c =
    let out = c.decode_to_slice.new.out in
    let decoded : decode_sized c.args.word.now 32 ≡ Ok out =
    digest_decoded _ c.decode_to_slice.result out c.decode_to_slice.ensures.value
    (sym c.ok.ensures.value ∙ c.in_ok-ok.was) in
    let written =
    on_ok c.encode_to_slice.result (sym c.ok-2.ensures.value ∙ c.in_ok-ok-2.was)
    c.encode_to_slice.ensures.written in
    let again : c.as_slice-2.result.now ≡ encode_lower out =
    c.as_slice-2.ensures ∙ written ∙ ap encode_lower c.as_slice.ensures in
    other_digest c.args.word.now out decoded
    (λ e. different c.as_slice-2.result.now c.as_bytes.result.now c.if-ne.ensures
    (again ∙ e ∙ sym c.as_bytes.ensures.value))

pub returns : goal.returns
returns c =
    let out = c.decode_to_slice.new.out in
    let decoded : decode_sized c.args.word.now 32 ≡ Ok out =
    digest_decoded _ c.decode_to_slice.result out c.decode_to_slice.ensures.value
    (sym c.ok.ensures.value ∙ c.in_ok-ok.was) in
    let written =
    on_ok c.encode_to_slice.result (sym c.ok-2.ensures.value ∙ c.in_ok-ok-2.was)
    c.encode_to_slice.ensures.written in
    let again : c.as_slice-2.result.now ≡ encode_lower out =
    c.as_slice-2.ensures ∙ written ∙ ap encode_lower c.as_slice.ensures in
    let same = alike c.as_slice-2.result.now c.as_bytes.result.now c.if-ne.ensures in (
      is_digest c.args.word.now out decoded c.decode_to_slice.auto.out,
      sym again ∙ same ∙ c.as_bytes.ensures.value,
    )
