use Rattle.std.proofs.Common.{◌≡◌, ◌<◌, ◌≤◌, take}
use Rattle.outbox.specs.Waiting.{size}
use Rattle.outbox.proofs.batch.batch_len.Given as goal

abbrev pub invariant-loop-i : goal.invariant-loop-i
invariant-loop-i l = record { sum : l.size ≡ size (take l.i l.frames.items); fits : 1 < l.i → l.size ≤ l.most }
