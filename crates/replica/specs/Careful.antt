-- Careful votes, as a replica is asked about them.
use Rattle.std.specs.Prelude.{ℕ, ◌∷◌, not, Bool, false, List, Some, None}
use Rattle.definitions.specs.Frames.{Core}
use Rattle.definitions.specs.Branches.{Branch}
use Rattle.definitions.specs.Trees.{find_in, block_of}
use Rattle.definitions.specs.Chronicles.{Chronicle, window}
use Rattle.definitions.specs.Careful.{justifies_from, is_careful}

-- the block of a core, on its parent in the window, or one between it and the block that it justifies, justifies one
-- below the lock
abbrev pub is_careless : Core → Chronicle → Bool
is_careless core c = elim (find_in core.parent (window c))
    [ Some parent ↦ not (is_careful (block_of core ∷ parent) c) | None ↦ false ]

-- the same over a parent in a tree, for any lock
abbrev pub justifies_below : (least : ℕ) → Core → List Branch → Bool
justifies_below least core tree = elim (find_in core.parent tree)
    [ Some parent ↦ not (justifies_from least core.justify_height (block_of core ∷ parent)) | None ↦ false ]
