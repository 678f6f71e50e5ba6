use Rattle.std.proofs.Common.{arith, length-drop, ◌∙◌}
use Rattle.std.proofs.lemmas.List.{take_rest}
use Rattle.connection.proofs.Devices.{Appends-more}
use Rattle.connection.proofs.counted.Counted.write.Goals as goal

pub loop-at-preserved : goal.loop-at-preserved
loop-at-preserved g c = record {
  within = omega (arith, rw take_rest at c.in_ok-at.ensures.bound, length-drop c.loop-at.at c.args.bytes.now);
  wrote = Appends-more (g.W.Write.contents c.args.self.now.device)
      (g.W.Write.contents c.loop-at.self.device) (g.W.Write.contents c.write_some.new.self.device)
      c.args.bytes.now c.loop-at.at c.in_ok-at.field-0 c.loop-at.invariant.wrote
      (rw take_rest at c.in_ok-at.ensures.bytes);
  failures = c.in_ok-at.ensures.kept ∙ c.loop-at.invariant.failures;
}
