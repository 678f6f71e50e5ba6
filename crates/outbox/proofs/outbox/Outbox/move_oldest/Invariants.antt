use Rattle.std.proofs.Common.{◌≡◌, ◌+◌, ◌-◌, ◌≤◌, ◌++◌, take, drop, vec_len, vec_capacity}
use Rattle.outbox.proofs.outbox.Outbox.move_oldest.Given as goal

abbrev pub invariant-loop : goal.invariant-loop
invariant-loop l = record {
  waits : l.self ≡ record l.fn.self { frames = drop l.counter l.fn.self.frames };
  taken : l.batch.items ≡ l.fn.batch.items ++ take l.counter l.fn.self.frames;
  room : vec_len l.batch + (l.count - l.counter) ≤ vec_capacity l.batch;
}
