use Rattle.std.proofs.Common.{sym, subst, List, [], ◌∷◌, Option, option_map}
use Rattle.std.specs.Result.{result_ok}
use Rattle.definitions.specs.Frames.{Frame}
use Rattle.frames_view.specs.Views.{frame_of}
use Rattle.definitions.specs.Bytes.{Bytes}
use Rattle.definitions.specs.FrameLimits.{IsReadAs}
use Rattle.std.specs.List.{AllByRecursion}
use Rattle.definitions.specs.Premises.{IsReadFrom, IsReadIn}
use Rattle.world_schedule.specs.declared.event.Source.{Source}
use Rattle.world_schedule.specs.declared.event.Event.{Event}
use Rattle.world_schedule.specs.Schedules.{event_of, sources_of}
use Rattle.world_schedule.proofs.running.brings_frame.Goals as goal

pub returns-in-Inject : goal.returns-in-Inject
returns-in-Inject c =
    let r : Option Frame = option_map frame_of (result_ok c.read.result) in (
      r ∷ [],
      subst (λ (x : Event). IsReadIn c.args.config.now (event_of (r ∷ []) x)) (sym c.in-Inject.is)
          (subst (λ (b : Bytes). IsReadAs c.args.config.now b r) c.deref.ensures.value c.read.ensures.value),
    )

pub returns-in-Offer : goal.returns-in-Offer
returns-in-Offer c =
    let r = c.is_frame.ensures in
    (r.0 ∷ [], subst (λ (x : Event). IsReadIn c.args.config.now (event_of (r.0 ∷ []) x)) (sym c.in-Offer.is) r.1)

pub returns-in-Gather : goal.returns-in-Gather
returns-in-Gather c =
    let r = c.are_frames.ensures in (
      r.0,
      subst (λ (x : Event). IsReadIn c.args.config.now (event_of r.0 x)) (sym c.in-Gather.is)
          (subst (λ (l : List Source). AllByRecursion (IsReadFrom c.args.config.now) (sources_of r.0 l))
          c.deref-in-Gather.ensures.value r.1),
    )

pub returns-in-Submit : goal.returns-in-Submit
returns-in-Submit c =
    ([], subst (λ (x : Event). IsReadIn c.args.config.now (event_of [] x)) (sym c.in-Submit.is) tt)

pub returns-in-Relay : goal.returns-in-Relay
returns-in-Relay c =
    ([], subst (λ (x : Event). IsReadIn c.args.config.now (event_of [] x)) (sym c.in-Relay.is) tt)

pub returns-in-Timeout : goal.returns-in-Timeout
returns-in-Timeout c =
    ([], subst (λ (x : Event). IsReadIn c.args.config.now (event_of [] x)) (sym c.in-Timeout.is) tt)

pub returns-in-Beat : goal.returns-in-Beat
returns-in-Beat c =
    ([], subst (λ (x : Event). IsReadIn c.args.config.now (event_of [] x)) (sym c.in-Beat.is) tt)

pub returns-in-Prune : goal.returns-in-Prune
returns-in-Prune c =
    ([], subst (λ (x : Event). IsReadIn c.args.config.now (event_of [] x)) (sym c.in-Prune.is) tt)

pub returns-in-Lead : goal.returns-in-Lead
returns-in-Lead c =
    ([], subst (λ (x : Event). IsReadIn c.args.config.now (event_of [] x)) (sym c.in-Lead.is) tt)

pub returns-in-Ask : goal.returns-in-Ask
returns-in-Ask c =
    ([], subst (λ (x : Event). IsReadIn c.args.config.now (event_of [] x)) (sym c.in-Ask.is) tt)
