use Rattle.std.proofs.Common.{sym, subst, Option, option_map}
use Rattle.std.specs.Result.{result_ok}
use Rattle.definitions.specs.Frames.{Frame}
use Rattle.frames_view.specs.Views.{frame_of}
use Rattle.definitions.specs.Bytes.{Bytes}
use Rattle.definitions.specs.FrameLimits.{IsReadAs}
use Rattle.definitions.specs.Premises.{IsReadFrom}
use Rattle.world_schedule.specs.declared.event.Source.{Source}
use Rattle.world_schedule.specs.Schedules.{source_of}
use Rattle.world_schedule.proofs.running.is_frame.Goals as goal

pub returns-in-Bytes : goal.returns-in-Bytes
returns-in-Bytes c =
    let r : Option Frame = option_map frame_of (result_ok c.read.result) in (
      r,
      subst (λ (x : Source). IsReadFrom c.args.config.now (source_of r x)) (sym c.in-Bytes.is)
          (subst (λ (b : Bytes). IsReadAs c.args.config.now b r) c.deref.ensures.value c.read.ensures.value),
    )
