use Rattle.std.proofs.Common.{arith, ◌≡◌, ◌<◌, ◌∙◌, ap, refl, Option, Some, None}
use Rattle.std.specs.Prelude.{option_map}
use Rattle.std.specs.Option.{ok_or}
use Rattle.std.specs.Result.{result_ok}
use Rattle.ids.specs.Sizes.{replicas}
use Rattle.frames_view.specs.Views.{frame_of}
use Rattle.frames_view.specs.Parts.{frame_in}
use Rattle.frames_view.proofs.Whole.{is_read}
use Rattle.frames_view.proofs.frame.read.Goals as goal

result_ok-ok_or : {A E : Type 0} (o : Option A) (e : E) → result_ok (ok_or o e) ≡ o
result_ok-ok_or (Some x) e = refl
result_ok-ok_or None e = refl

pub returns-clause-value : goal.returns-clause-value
returns-clause-value c =
    let sizes = c.args.config.now in
    let few : replicas sizes < 256 = omega (arith, c.n-replicas.ensures.count, c.n-replicas.type_inv) in
    let few_clients : sizes.clients < 256 =
    omega (arith, c.clients-clients.ensures, c.clients-clients.type_inv) in
    let e : option_map frame_of (result_ok c.ok_or.result) ≡ frame_in sizes c.args.bytes.now =
    ap (λ r. option_map frame_of (result_ok r)) c.ok_or.ensures.value
    ∙ ap (option_map frame_of) (result_ok-ok_or c.whole_frame.result _) ∙ c.whole_frame.ensures.taken in
    is_read sizes (few, few_clients) c.args.bytes.now (option_map frame_of (result_ok c.ok_or.result))
    (λ i. omega (arith, c.type_inv.bytes i)) e
