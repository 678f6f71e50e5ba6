use Rattle.std.proofs.Common.{◌≡◌}
use Rattle.recovery.specs.Healing.{make_blocks}
use Rattle.healer.specs.Courses.{Goes}
use Rattle.healer.proofs.blocks.make_blocks.Given as goal

abbrev pub invariant-loop-made : goal.invariant-loop-made
invariant-loop-made l = record {
  origin : l.healer.origin ≡ l.initial.healer.origin;
  made : Goes l.initial.healer (make_blocks l._made l.leader) l.healer;
}
