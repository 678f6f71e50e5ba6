use Rattle.std.proofs.Common.{◌≡◌, ◌+◌, ◌-◌, ◌≤◌, ℕ, length, max, sum, get_or}
use Rattle.block_tree.proofs.counts.Counts.prune.Given as goal

abbrev pub invariant-prune : goal.invariant-prune
invariant-prune l = record {
  own : l.base ≡ l.fn.base;
  total : l.self-inside.total ≡ sum l.self-inside.heights.items;
  base : max l.fn.base l.self-inside.base ≡ max l.fn.base l.initial.self-inside.base;
  same : (h : ℕ) → max l.fn.base l.initial.self-inside.base ≤ h
      → get_or l.self-inside.heights.items (h - l.self-inside.base) 0
      ≡ get_or l.initial.self-inside.heights.items (h - l.initial.self-inside.base) 0;
  longer : l.initial.self-inside.base + length l.initial.self-inside.heights.items
      ≤ l.self-inside.base + length l.self-inside.heights.items;
}

abbrev pub decreases-prune : goal.decreases-prune
decreases-prune l = l.base - l.self-inside.base
