use Rattle.std.specs.Prelude.{slice_index_or}
use Rattle.std.proofs.Common.{ℕ, refl, arith, ◌∙◌}
use Rattle.definitions.specs.Worlds.{Event.relay}
use Rattle.world_schedule.specs.declared.event.Event.TheVariants.{Relay}
use Rattle.healer.proofs.Phases.{goes-none, goes-further, goes-through}
use Rattle.healer.proofs.healer.bring_all.Goals as goal

pub loop-frame-init : goal.loop-frame-init
loop-frame-init c = record { origin = refl; came = goes-none c.args.healer.now }

pub loop-frame-preserved : goal.loop-frame-preserved
loop-frame-preserved c = record {
  origin = c.in_ok-take.ensures.origin ∙ c.loop-frame.invariant.origin;
  came = goes-further ℕ (λ k. relay k c.args.to) c.args.frames.now c.loop-frame.frame-index 0
      (slice_index_or c.args.frames.now c.loop-frame.frame-index 0) c.args.healer.now c.loop-frame.healer
      c.take.new.self (Relay (slice_index_or c.args.frames.now c.loop-frame.frame-index 0) c.args.to)
      (omega (arith, c.loop-frame-test.true)) refl c.loop-frame.invariant.came c.in_ok-take.ensures.taken
      (λ reads. refl);
}

pub returns-clause-came : goal.returns-clause-came
returns-clause-came c =
    goes-through ℕ (λ k. relay k c.args.to) c.args.frames.now c.loop-frame.frame-index c.args.healer.now
    c.loop-frame.healer (omega (arith, c.loop-frame-test.false)) c.loop-frame.invariant.came
