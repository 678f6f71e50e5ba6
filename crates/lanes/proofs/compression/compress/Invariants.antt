use Rattle.std.proofs.Common.{◌≡◌, ℕ, ◌*◌, ◌<◌, List}
use Rattle.sha2.specs.Sha256.{rounds, schedule}
use Rattle.lanes.specs.Lanes.{HasKeyedSchedule, state_lane}
use Rattle.lanes.proofs.compression.compress.Given as goal

abbrev pub invariant-loop-turn : goal.invariant-loop-turn
invariant-loop-turn l = (j : ℕ) (b : List ℕ) → j < 4 → HasKeyedSchedule l.keyed j b
    → state_lane l.v j ≡ rounds (state_lane l.state j) (schedule b 48) (8 * l.turn)
