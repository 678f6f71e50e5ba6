-- The lines so far are read.
use Rattle.std.proofs.Common.{◌≡◌, ◌++◌, List}
use Rattle.std.specs.Prelude.{filter}
use Rattle.key_file.specs.Holders.{has_pair}
use Rattle.key_file.specs.KeyFile.{pairs_with}
use Rattle.key_file.specs.Reading.{Reads}
use Rattle.key_file.specs.declared.pair_key.PairKey.{PairKey}
use Rattle.key_file.proofs.rows.read_with.Given as goal

abbrev pub invariant-loop-i : goal.invariant-loop-i
invariant-loop-i l =
    (read : List PairKey) × (l.keys.items ≡ l.fn.keys.items ++ read)
    × Reads (filter (has_pair l.holder) (pairs_with l.one l.fn.first l.i)) l.text read l.rest
