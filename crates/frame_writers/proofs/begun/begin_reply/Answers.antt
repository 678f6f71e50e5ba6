use Rattle.std.proofs.Common.{◌≡◌, ◌++◌, [], length, subst, append-nil}
use Rattle.std.specs.Int.{w16, w32, w64, to_be_bytes}
use Rattle.definitions.specs.Bytes.{Bytes}
use Rattle.frame_writers.specs.Begun.{IsBegun, untagged}
use Rattle.frame_writers.proofs.Numbers.{number_first}
use Rattle.frame_writers.proofs.begun.begin_reply.Goals as goal

pub returns : goal.returns
returns c =
    let same = c.as_slice-text.ensures.bytes in
    let replica : c.in_two.result ≡ to_be_bytes w16 c.args.replica = cc in
    let client : c.in_two-2.result ≡ to_be_bytes w16 c.args.client = cc in
    let seq : c.in_eight.result ≡ to_be_bytes w64 c.args.seq = cc in
    let place : c.in_eight-2.result ≡ to_be_bytes w64 c.args.place = cc in
    let len : c.in_four.result ≡ to_be_bytes w32 (length c.args.text.now) = cc in
    let end = append-nil c.as_slice-text.result.now in
    let text : c.as_slice-text.result.now ++ [] ≡ c.args.text.now = cc in
    subst (λ (t : Bytes). IsBegun c.args.out.now c.begin.new.out (untagged 5 t) c.args.tags c.begin.result)
    (number_first _ _ replica
    (number_first _ _ client (number_first _ _ seq (number_first _ _ place (number_first _ _ len text)))))
    c.begin.ensures
