use Rattle.std.proofs.Common.{length, arith, ap}
use Rattle.std.proofs.lemmas.List.Sums.{sum_by_more}
use Rattle.definitions.specs.Bytes.{Bytes}
use Rattle.outbox.proofs.batch.batch_len.Goals as goal

pub returns-in-None : goal.returns-in-None
returns-in-None c = record {
  within = omega arith;
  some = λ _. omega arith;
  fits = λ more. omega (arith, c.loop-i.invariant.sum, c.loop-i.invariant.fits more);
  longest = λ more. omega (
    arith,
    sum_by_more (λ (f : Bytes). length f) c.args.frames.now.items c.loop-i.i c.index.result.now more,
    ap (λ (f : Bytes). length f) c.index.ensures,
    c.loop-i.invariant.sum,
    c.in-None.ensures,
  );
}
