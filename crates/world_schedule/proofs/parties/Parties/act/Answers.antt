use Rattle.std.proofs.Common.{sym, ap, ◌∙◌, []}
use Rattle.definitions.specs.Worlds as worlds
use Rattle.world_schedule.specs.Schedules.{event_of, first_read}
use Rattle.world_schedule.proofs.Runs.{handed-if, injected-if, relayed-if, moved-if, timed-out, beaten, pruned-to}
use Rattle.world_schedule.proofs.Runs.{led, asked, offered-if, gathered-if}
use Rattle.world_schedule.proofs.parties.Parties.act.Goals as goal

pub returns-in-Submit-clause-acted : goal.returns-in-Submit-clause-acted
returns-in-Submit-clause-acted c =
    handed-if _ _ _ _ _ _ _ _ _ _ (ap (event_of []) c.in-Submit.is
    ∙ ap (worlds.submit c.in-Submit.client) (sym c.deref.ensures.value)) c.submit.ensures.submitted

pub returns-in-Relay-clause-acted : goal.returns-in-Relay-clause-acted
returns-in-Relay-clause-acted c =
    relayed-if _ _ _ _ _ _ c.in-Relay.frame c.in-Relay.to _ _ c.index-sent-frame.result _ c.in-Relay.is
    c.holds.ensures.sizes_are c.requires.allowed c.deref-in-Relay.ensures.value c.bring.ensures.brought

pub returns-in-Inject-clause-acted : goal.returns-in-Inject-clause-acted
returns-in-Inject-clause-acted c =
    injected-if _ _ _ _ _ _ _ _ _ _ (λ read. ap (event_of read) c.in-Inject.is
    ∙ ap (λ b. worlds.inject c.in-Inject.to b (first_read read)) (sym c.deref-in-Inject.ensures.value))
    c.bring-in-Inject.ensures.brought

pub returns-in-Timeout-clause-acted : goal.returns-in-Timeout-clause-acted
returns-in-Timeout-clause-acted c =
    moved-if _ _ _ _ _ _ _ _ _ _ _ c.in-Timeout.is (λ w e. timed-out _ w _ _ e c.in-Timeout.replica)
    c.step.ensures.moved

pub returns-in-Beat-clause-acted : goal.returns-in-Beat-clause-acted
returns-in-Beat-clause-acted c =
    moved-if _ _ _ _ _ _ _ _ _ _ _ c.in-Beat.is (λ w e. beaten _ w _ _ e c.in-Beat.replica)
    c.step-in-Beat.ensures.moved

pub returns-in-Prune-clause-acted : goal.returns-in-Prune-clause-acted
returns-in-Prune-clause-acted c =
    moved-if _ _ _ _ _ _ _ _ _ _ _ c.in-Prune.is (λ w e. pruned-to _ w _ _ e c.in-Prune.replica c.in-Prune.height)
    c.step-in-Prune.ensures.moved

pub returns-in-Lead-clause-acted : goal.returns-in-Lead-clause-acted
returns-in-Lead-clause-acted c =
    moved-if _ _ _ _ _ _ _ _ _ _ _ c.in-Lead.is (λ w e. led _ w _ _ e c.in-Lead.replica c.in-Lead.block)
    c.step-in-Lead.ensures.moved

pub returns-in-Ask-clause-acted : goal.returns-in-Ask-clause-acted
returns-in-Ask-clause-acted c =
    moved-if _ _ _ _ _ _ _ _ _ _ _ c.in-Ask.is (λ w e. asked _ w _ _ e c.in-Ask.replica c.in-Ask.to c.in-Ask.block)
    c.step-in-Ask.ensures.moved

pub returns-in-Offer-clause-acted : goal.returns-in-Offer-clause-acted
returns-in-Offer-clause-acted c =
    offered-if _ _ _ _ _ _ c.in-Offer.to c.in-Offer.source _ _ _ c.in-Offer.is c.holds.ensures.sizes_are
    c.bytes_of.ensures c.offer.ensures.offered

pub returns-in-Gather-clause-acted : goal.returns-in-Gather-clause-acted
returns-in-Gather-clause-acted c =
    gathered-if _ _ _ _ _ _ c.in-Gather.to c.in-Gather.sources _ _ _ c.in-Gather.is c.holds.ensures.sizes_are
    c.deref-in-Gather.ensures.value c.gather.ensures.gathered
