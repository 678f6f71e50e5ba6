use Rattle.std.specs.Io.KnownBytes.{Keeps}
use Rattle.tcp_front.proofs.line.LineRead.read.Given as goal

abbrev pub invariant-loop : goal.invariant-loop
invariant-loop g l = Keeps (g.D.Read.remaining l.initial.self.device) (g.D.Read.remaining l.self.device)
