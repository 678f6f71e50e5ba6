use Rattle.std.proofs.Common.{◌≡◌, fold}
use Rattle.definitions.specs.Cache.{used}
use Rattle.mc_lines.specs.Meaning.{keys_of, keys_left}
use Rattle.cache.proofs.cache.Cache.count_uses.Given as goal

-- the uses so far, and those of the keys that are left
abbrev pub invariant-loop-key : goal.invariant-loop-key
invariant-loop-key l = fold used l.self (keys_left l.key-iterator) ≡ fold used l.fn.self (keys_of l.fn.keys)
