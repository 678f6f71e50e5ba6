use Rattle.std.proofs.Common.{◌≡◌}
use Rattle.std.specs.Io.KnownBytes.{Keeps}
use Rattle.connection.proofs.counted.Counted.read.Given as goal

abbrev pub invariant-loop : goal.invariant-loop
invariant-loop g l = record {
  kept : Keeps (g.R.Read.remaining l.initial.self-inside.device) (g.R.Read.remaining l.self-inside.device);
  failures : l.self-inside.failures ≡ l.initial.self-inside.failures;
}
