-- The frames so far.
use Rattle.std.proofs.Common.{◌≡◌, map}
use Rattle.std.specs.List.{range_with_len}
use Rattle.signed_frames.specs.Outs.{sent_of}
use Rattle.liars.specs.Lies.{faces}
use Rattle.liars.proofs.plain.to_each.Given as goal

abbrev pub invariant-loop-number : goal.invariant-loop-number
invariant-loop-number l =
    map sent_of l.out.items ≡ map (faces l.even l.odd) (range_with_len 0 l.number)
