use Rattle.std.proofs.Common.{◌≡◌, ◌++◌, [], length, subst, append-nil, ap}
use Rattle.std.specs.Int.{w16, w64, to_be_bytes}
use Rattle.definitions.specs.Bytes.{Bytes}
use Rattle.frame_writers.specs.Begun.{IsBegun}
use Rattle.frame_writers.proofs.Numbers.{number_first}
use Rattle.frame_writers.proofs.parts.begin_command.Goals as goal

pub returns : goal.returns
returns c =
    let same = c.as_slice-payload.ensures.bytes in
    let client : c.in_two.result ≡ to_be_bytes w16 c.args.client = cc in
    let seq : c.in_eight.result ≡ to_be_bytes w64 c.args.seq = cc in
    let len : c.in_two-2.result ≡ to_be_bytes w16 (length c.args.payload.now) = cc in
    let end = append-nil c.as_slice-payload.result.now in
    let payload : c.as_slice-payload.result.now ++ [] ≡ c.args.payload.now = cc in
    subst (λ (t : Bytes). IsBegun c.args.out.now c.append_before.new.out t c.args.tags c.append_before.result)
    (ap (λ (t : Bytes). c.args.head.now ++ t)
    (number_first _ _ client (number_first _ _ seq (number_first _ _ len payload))))
    c.append_before.ensures
