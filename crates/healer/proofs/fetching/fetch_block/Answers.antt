use Rattle.std.proofs.Common.{ap, ◌∙◌, List}
use Rattle.definitions.specs.Worlds.{Event.gather, Source}
use Rattle.world_schedule.specs.Schedules.{sources_of}
use Rattle.world_schedule.specs.declared.event.Source as code
use Rattle.world_schedule.specs.declared.event.Event.TheVariants.{Gather}
use Rattle.healer.proofs.Asking.{fetches-block, record-sources}
use Rattle.healer.proofs.fetching.fetch_block.Goals as goal

pub returns-clause-came : goal.returns-clause-came
returns-clause-came c =
    fetches-block c.args.block c.args.replica c.sent-before.result c.args.correct.now c.deref.result.now
    (Gather c.args.replica c.in_ok-sources.sources) c.args.healer.now c.ask_each.new.healer c.take.new.self c.take.result
    c.sent-before.ensures c.in_ok-ask_each.ensures.came (λ hs w t. c.deref.ensures.value ∙ c.in_ok-copies.ensures hs w t)
    (λ reads. ap (λ (l : List Source). gather c.args.replica l)
    (ap (λ (l : List code.Source). sources_of reads l) c.in_ok-sources.ensures
    ∙ record-sources reads c.deref.result.now)) c.take.ensures.taken
