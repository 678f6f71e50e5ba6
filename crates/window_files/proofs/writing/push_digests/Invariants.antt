-- The lines so far are appended.
use Rattle.std.proofs.Common.{◌≡◌, ◌++◌, take}
use Rattle.std.specs.List.{flat_map}
use Rattle.window_files.specs.Files.{digest_line}
use Rattle.window_files.proofs.writing.push_digests.Given as goal

abbrev pub invariant-loop-digest : goal.invariant-loop-digest
invariant-loop-digest l = l.out.items ≡ l.fn.out.items ++ flat_map digest_line (take l.digest-index l.digests)
