use Rattle.std.proofs.Common.{◌≡◌, ◌<◌, ◌≤◌, ℕ}
use Rattle.std.specs.Prelude.{◌⊎◌, slice_index}
use Rattle.ids.specs.Sizes.{replicas}
use Rattle.pacemaker.specs.Pacing.{passed_by}
use Rattle.pacemaker.proofs.pacemaker.Pacemaker.reached.Given as goal

abbrev pub invariant-loop-i : goal.invariant-loop-i
invariant-loop-i l = record {
  some : (l.reached ≡ 0)
      ⊎ ((i : ℕ) × (i < replicas l.self.sizes) × (slice_index l.self.announced i ≡ l.reached)
      × (l.self.sizes.faults < passed_by l.self l.reached));
  most : (i : ℕ) → i < l.i → l.self.sizes.faults < passed_by l.self (slice_index l.self.announced i)
      → slice_index l.self.announced i ≤ l.reached;
}
