use Rattle.std.proofs.Common.{length, ◌-◌, ◌≤◌}
use Rattle.definitions.specs.Trees.{blocks}
use Rattle.frames_view.specs.Views.{core_of}
use Rattle.block_tree.specs.Nodes.{block_in, window}
use Rattle.block_tree.specs.Numbers.{numbered}
use Rattle.block_tree.proofs.Descending.{Building}
use Rattle.block_tree.proofs.forest.Forest.links_over.Given as goal

abbrev pub invariant-build : goal.invariant-build
invariant-build l = record {
  building : Building (blocks l.self.all) (block_in (core_of l.core) (blocks (window l.self))) l.at l.level
      l.links;
  high : l.self.horizon - 2 ≤ length (numbered (blocks l.self.all) l.at);
}

abbrev pub decreases-build : goal.decreases-build
decreases-build l = length (numbered (blocks l.self.all) l.at)
