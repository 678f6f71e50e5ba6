-- The rows so far are read.
use Rattle.key_file.specs.Holders.{has_pair}
use Rattle.key_file.specs.Reading.{Reads}
use Rattle.key_file.proofs.Files.{lines_before}
use Rattle.key_file.proofs.held_keys.HeldKeys.read.Given as goal

abbrev pub invariant-loop-one : goal.invariant-loop-one
invariant-loop-one l = Reads (lines_before (has_pair l.holder) l.config l.one) l.text l.keys.items l.rest
