use Rattle.std.proofs.Common.{arith, bit_xor, sym, ◌∙◌}
use Rattle.std.proofs.lemmas.List.{length-set}
use Rattle.std.proofs.lemmas.List.Edits.{map_over_more}
use Rattle.std.proofs.lemmas.Grind.{get_or_default_zero}
use Rattle.authenticators.proofs.mac.masked.Goals as goal

pub loop-byte-preserved : goal.loop-byte-preserved
loop-byte-preserved c = record {
  whole = length-set _ _ _ ∙ c.loop-byte.invariant.whole;
  mixed =
      map_over_more (λ b. bit_xor b c.args.mask) c.args.block.now c.loop-byte.byte-items
      c.loop-byte.byte-index _
      (omega arith) c.loop-byte.invariant.mixed (sym (get_or_default_zero c.loop-byte.byte-items
      c.loop-byte.byte-index _ (omega (arith, c.loop-byte.invariant.whole))));
}
