-- How much a replica keeps, by the terms.
use Rattle.std.specs.Prelude.{ℕ, ◌/◌, min, Option, option_map, unwrap_or}
use Rattle.ids.specs.Sizes.{Sizes, replicas}
use Rattle.ids.specs.declared.limits.TheConstants.{MOST_BLOCKS}
use Rattle.tuning.specs.declared.clocks.TheConstants.{MOST_KEPT}
use Rattle.clock.specs.declared.forgetting.Keep.{Keep}
use Rattle.station.specs.declared.terms.Terms.{Terms}

-- the heights that it keeps for others at most: no more than half of the blocks that it may hold
abbrev pub most_kept : Terms → Sizes → ℕ
most_kept terms sizes =
    min (unwrap_or terms.window_most (MOST_KEPT / replicas sizes))
    (min (unwrap_or terms.blocks MOST_BLOCKS) MOST_BLOCKS / 2)

-- how much it keeps, if it is to forget
abbrev pub keep : Terms → Sizes → Option Keep
keep terms sizes = option_map (λ window. record { window = window; most = most_kept terms sizes }) terms.window
