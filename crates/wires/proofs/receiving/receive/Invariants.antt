use Rattle.std.proofs.Common.{◌≡◌, ◌≤◌, vec_len}
use Rattle.std.specs.Io.KnownBytes.{Consumes}
use Rattle.definitions.specs.Bytes.{Bytes}
use Rattle.wire_frames.specs.Framing.{IsUnfinished}
use Rattle.wire_frames.specs.Longest.{longest_item}
use Rattle.wires.specs.Receiving.{Passes}
use Rattle.wires.proofs.receiving.receive.Given as goal

-- what was read so far is frames that were handed on, and what the feed holds
abbrev pub invariant-loop : goal.invariant-loop
invariant-loop g l = record {
  so_far : (read : Bytes)
      × Consumes (g.D.Read.remaining l.initial.reader.device) (g.D.Read.remaining l.reader.device) read
      × Passes g.A.Arrivals.takes l.from l.initial.rows l.rows read l.feed.held;
  unfinished : IsUnfinished l.feed.longest l.feed.held;
  longest : l.feed.longest ≡ longest_item l.config;
  room : vec_len l.piece ≤ l.feed.piece;
}
