-- How numbers are counted.
use Rattle.std.specs.Prelude.{ℕ, ◌+◌, ◌-◌, ◌%◌, ◌^◌}
use Rattle.cache.specs.declared.count.Step.{Step}
use Rattle.cache.specs.declared.count.Step.TheVariants.{Up, Down}

-- the number after a step
abbrev pub after_step : Step → ℕ → ℕ
after_step (Up value) n = (n + value) % 2 ^ 64
after_step (Down value) n = n - value
