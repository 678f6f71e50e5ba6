use Rattle.std.proofs.Common.{sym, ap, ◌∙◌, option_map}
use Rattle.mc_lines.specs.Meaning.{asked_of}
use Rattle.world_schedule.proofs.Clients.{is-request, is-payload, sent-if, refused-submitted}
use Rattle.world_schedule.proofs.client.submit.Goals as goal

pub submit-requires : goal.submit-requires
submit-requires c = is-request _ _
    (sym c.read_canonical.ensures.value ∙ ap (option_map (λ r. asked_of r)) c.unwrap-request.ensures)

pub returns-in-Ok-clause-submitted : goal.returns-in-Ok-clause-submitted
returns-in-Ok-clause-submitted c =
    sent-if _ _ _ _ _ _ (is-payload _ _
    (sym c.read_canonical.ensures.value ∙ ap (option_map (λ r. asked_of r)) c.unwrap-request.ensures))
    (record { state = c.in-Ok.ensures.state; answer = c.in-Ok.ensures.answer }) c.one.ensures.out
    c.one.ensures.accepted c.one.ensures.answer

pub returns-in-Err-clause-submitted : goal.returns-in-Err-clause-submitted
returns-in-Err-clause-submitted c =
    refused-submitted _ _ _ _ _ _ (is-payload _ _
    (sym c.read_canonical.ensures.value ∙ ap (option_map (λ r. asked_of r)) c.unwrap-request.ensures))
    (record { state = c.in-Err.ensures.state; answer = c.in-Err.ensures.answer }) c.only.ensures.out
    c.only.ensures.accepted c.only.ensures.answer
