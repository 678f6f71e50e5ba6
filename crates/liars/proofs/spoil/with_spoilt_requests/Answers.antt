use Rattle.std.proofs.Common.{rules, ◌≡◌, ◌++◌, [], ◌∷◌, ◌∙◌, ap, map, Some}
use Rattle.std.proofs.lemmas.List.{map-append}
use Rattle.definitions.specs.FrameLimits.{IsReadAs}
use Rattle.frames_view.specs.Views.{core_of, proposal_of}
use Rattle.signed_frames.specs.Outs.{sent_of}
use Rattle.liars.specs.Lies.{spoilt_requests}
use Rattle.liars.proofs.spoil.with_spoilt_requests.Goals as goal

pub returns-in_ok-push-in-Ok-Proposal-clause-lies : goal.returns-in_ok-push-in-Ok-Proposal-clause-lies
returns-in_ok-push-in-Ok-Proposal-clause-lies c =
    let view = c.in-Ok-Proposal.view in
    let sending = c.args.sending in
    let sizes = c.args.keyring.now.sizes in
    let is_read : IsReadAs sizes sending.frame.items (Some (proposal_of view)) = search rules in
    let made : map sent_of c.in_ok-out-in-Ok-Proposal.out.items ≡ spoilt_requests sizes (core_of view.core) =
    c.in_ok-out-in-Ok-Proposal.ensures.made
    ∙ (λ i. spoilt_requests (c.config-config.ensures i) (c.core.ensures.value i)) in (
      Some (proposal_of view),
      is_read,
      ap (map sent_of) c.in_ok-push-in-Ok-Proposal.ensures.items
          ∙ (map-append sent_of c.in_ok-out-in-Ok-Proposal.out.items (sending ∷ [])
          ∙ ap (λ xs. xs ++ sent_of sending ∷ []) made),
    )
