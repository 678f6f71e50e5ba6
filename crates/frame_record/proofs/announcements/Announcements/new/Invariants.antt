use Rattle.std.proofs.Common.{◌≡◌, ◌+◌, ◌≤◌, ◌-◌, None, replicate, vec_len, vec_capacity}
use Rattle.frame_record.proofs.announcements.Announcements.new.Given as goal

abbrev pub invariant-loop : goal.invariant-loop
invariant-loop l = record {
  so_far : l.newest.items ≡ replicate l.counter None;
  room : vec_len l.newest + (l.end - l.counter) ≤ vec_capacity l.newest;
}
