use Rattle.std.proofs.Common.{◌≡◌, ◌++◌, ◌∙◌, length, ap, arith}
use Rattle.definitions.specs.Bytes.{Bytes}
use Rattle.definitions.specs.Requests.{canonical}
use Rattle.definitions.proofs.RequestTexts.{length-canonical}
use Rattle.mc_lines.specs.Meaning.{asked_of}
use Rattle.client_accept.proofs.Sessions.{is_there}
use Rattle.client_accept.proofs.session.Session.frame_of.Goals as goal

pub unwrap-payload-requires : goal.unwrap-payload-requires
unwrap-payload-requires c =
    let request = asked_of c.args.request.now in
    let text : c.as_slice.result.now ≡ canonical request =
    c.as_slice.ensures.value ∙ c.in_ok-write_request.ensures.appended
    ∙ ap (λ (before : Bytes). before ++ canonical request) c.new-text.ensures.items in
    is_there c.new.result (length c.as_slice.result.now)
    (omega (arith, ap length text, length-canonical request c.requires)) c.new.ensures.long
