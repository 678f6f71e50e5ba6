use Rattle.std.proofs.Common.{◌≡◌, ◌-◌, ◌≤◌, length}
use Rattle.std.specs.Io.KnownBytes.{Consumes}
use Rattle.definitions.specs.Bytes.{Bytes}
use Rattle.connection.specs.Serving.{ServesFront, state}
use Rattle.connection.proofs.serving.serve_pieces.Given as goal

abbrev pub invariant-loop-reads : goal.invariant-loop-reads
invariant-loop-reads g l =
    (read : Bytes)
    × Consumes (g.R.Read.remaining l.fn.reader.device) (g.R.Read.remaining l.reader.device) read
    × (l.reads ≤ length read)
    × ServesFront g.S.Service.answers (state g.W.Write.contents l.fn.service l.fn.writer)
    (state g.W.Write.contents l.service l.writer) read l.feed
    × (l.reader.failures ≡ l.fn.reader.failures)

abbrev pub decreases-loop-reads : goal.decreases-loop-reads
decreases-loop-reads g l = 18446744073709551615 - l.reads
