-- Parts that are numbers, before others.
use Rattle.std.proofs.Common.{◌≡◌, ◌++◌}
use Rattle.definitions.specs.Bytes.{Bytes}

-- one more number in front
pub number_first : (a b : Bytes) {s t : Bytes} → a ≡ b → s ≡ t → a ++ s ≡ b ++ t
number_first a b e f = cc
