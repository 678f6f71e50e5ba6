use Rattle.std.proofs.Common.{◌≡◌, map, ◌++◌}
use Rattle.definitions.specs.Cache.{values_of}
use Rattle.mc_lines.specs.Meaning.{value_of, keys_of, keys_left}
use Rattle.cache.proofs.cache.Cache.values.Given as goal

-- what is told so far, and what the keys that are left have
abbrev pub invariant-loop-key : goal.invariant-loop-key
invariant-loop-key l =
    map value_of l.values.items ++ values_of l.self (keys_left l.key-iterator)
    ≡ values_of l.self (keys_of l.fn.keys)
