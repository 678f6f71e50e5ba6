use Rattle.std.proofs.Common.{rules, ◌≡◌, ◌==◌, ◌+◌, ◌∙◌, sym, true, Some}
use Rattle.std.proofs.lemmas.Bool.{cond-true}
use Rattle.definitions.specs.FrameLimits.{IsReadAs}
use Rattle.frames_view.specs.Views.{core_of, proposal_of}
use Rattle.liars.proofs.climb.with_climb.Goals as goal

pub returns-in-Ok-Proposal-clause-lies : goal.returns-in-Ok-Proposal-clause-lies
returns-in-Ok-Proposal-clause-lies c =
    let view = c.in-Ok-Proposal.view in
    let core = core_of view.core in
    let is_read : IsReadAs c.args.keyring.now.sizes c.args.sending.frame.items (Some (proposal_of view)) =
    search rules in
    let stands : (core.height == core.justify_height + 1) ≡ true =
    sym c.stands_on_justified.ensures ∙ c.if-stands_on_justified.true in (
      Some (proposal_of view),
      is_read,
      c.in_ok-chain-in-Ok-Proposal.ensures.made ∙ sym (cond-true _ _ _ stands),
    )
