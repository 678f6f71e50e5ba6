-- How far each replica's steps are made, as a row of counts.
use Rattle.std.specs.Prelude.{ℕ, List, slice_index}
use Rattle.definitions.specs.Audit.{Cut}

-- the counts, by number of replica
abbrev pub cut_of : List ℕ → Cut
cut_of row i = slice_index row i
