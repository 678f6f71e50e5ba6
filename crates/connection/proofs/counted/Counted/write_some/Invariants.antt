use Rattle.std.proofs.Common.{◌≡◌}
use Rattle.std.specs.Io.KnownBytes.{Keeps}
use Rattle.connection.proofs.counted.Counted.write_some.Given as goal

abbrev pub invariant-loop : goal.invariant-loop
invariant-loop g l = record {
  kept : Keeps (g.W.Write.contents l.initial.self-inside.device) (g.W.Write.contents l.self-inside.device);
  failures : l.self-inside.failures ≡ l.initial.self-inside.failures;
}
