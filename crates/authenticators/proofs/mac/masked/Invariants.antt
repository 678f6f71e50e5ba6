use Rattle.std.proofs.Common.{◌≡◌, ◌++◌, map, take, drop, bit_xor, length}
use Rattle.authenticators.proofs.mac.masked.Given as goal

abbrev pub invariant-loop-byte : goal.invariant-loop-byte
invariant-loop-byte l = record {
  whole : length l.byte-items ≡ 64;
  mixed : l.byte-items ≡ map (λ b. bit_xor b l.mask) (take l.byte-index l.block) ++ drop l.byte-index l.block;
}
