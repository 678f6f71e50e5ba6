use Rattle.std.specs.Io.KnownBytes.{Keeps}
use Rattle.tcp_front.proofs.line.LineWrite.write.Given as goal

abbrev pub invariant-loop : goal.invariant-loop
invariant-loop g l = Keeps (g.D.Write.contents l.initial.self.device) (g.D.Write.contents l.self.device)
