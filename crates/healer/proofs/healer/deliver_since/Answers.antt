use Rattle.std.proofs.Common.{refl, ◌∙◌}
use Rattle.healer.specs.Courses.{AreCorrect}
use Rattle.healer.specs.Records.{is_of}
use Rattle.healer.proofs.Records.{delivers-first, delivers-next, delivers-all}
use Rattle.healer.proofs.healer.deliver_since.Goals as goal

pub loop-frame-init : goal.loop-frame-init
loop-frame-init c = record {
  origin = refl;
  came = delivers-first (is_of c.args.kind) c.args.before c.args.before c.args.healer.now
      (AreCorrect c.args.correct.now) refl;
}

pub loop-frame-preserved : goal.loop-frame-preserved
loop-frame-preserved c = record {
  origin = c.in_ok-deliver.ensures.origin ∙ c.loop-frame.invariant.origin;
  came = delivers-next (is_of c.args.kind) c.args.before c.loop-frame.frame c.sent-end.result c.args.correct.now
      c.args.healer.now c.loop-frame.healer c.deliver.new.healer c.loop-frame.auto.frame c.loop-frame-test.true
      c.sent-end.ensures c.loop-frame.invariant.came c.in_ok-deliver.ensures.came;
}

pub returns-clause-came : goal.returns-clause-came
returns-clause-came c =
    delivers-all (is_of c.args.kind) c.args.before c.loop-frame.frame c.sent-end.result c.args.correct.now
    c.args.healer.now c.loop-frame.healer c.loop-frame-test.false c.sent-end.ensures c.loop-frame.invariant.came
