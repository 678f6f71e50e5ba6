-- The copies so far.
use Rattle.std.proofs.Common.{◌≡◌, map}
use Rattle.std.specs.Prelude.{replicate}
use Rattle.definitions.specs.Sendings.{to_all}
use Rattle.signed_frames.specs.Outs.{sent_of}
use Rattle.liars.proofs.plain.with_flood.Given as goal

abbrev pub invariant-loop : goal.invariant-loop
invariant-loop l =
    map sent_of l.out.items ≡ replicate l.counter (to_all, l.kind, l.sending.frame.items)
