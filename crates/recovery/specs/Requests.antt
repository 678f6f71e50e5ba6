-- A correct client's request is executed by all, and the client has its receipt.
use Rattle.std.specs.Prelude.{ℕ, ◌≡◌}
use Rattle.std.specs.Prelude.{Ok}
use Rattle.ids.specs.Sizes.{AreSizes}
use Rattle.definitions.specs.Chronicles.{executed}
use Rattle.definitions.specs.Frames.{Command}
use Rattle.definitions.specs.Runs.{run, after}
use Rattle.definitions.specs.Worlds.{World}
use Rattle.recovery.specs.Correct.{OfCorrect, AllGoOn, ShareKeys, chronicle_of}
use Rattle.recovery.specs.Healing.{agree_on, ask_again}
use Rattle.recovery.specs.NeverWedged.{AheadOf, MayHeal, IsAsked}
use Rattle.recovery.specs.NeverWedged.{IsAnswered}
use Rattle.recovery.specs.Rounds.{Carries}

-- ---- a request

-- The run names only what is there, and all correct replicas go on. Each executed a command of this request's client and
-- number, now or before.
pub record IsExecutedByAll (w last : World) (k : ℕ) (c : Command) : Type 0 where
  pub ran : run w (agree_on k w) ≡ Ok last
  pub going_on : AllGoOn last
  pub executed_there : OfCorrect last (λ r. Carries (executed (chronicle_of last r)) c)
  pub session : last.session ≡ w.session

-- so a correct client's request is executed by all
abbrev pub RequestsAreExecuted : Type 0
RequestsAreExecuted =
    (k client : ℕ) → AheadOf (agree_on k) (λ w. MayHeal w → (asked : IsAsked w k client)
    → IsExecutedByAll w (after w (agree_on k w)) k asked.command)

-- ---- a receipt

-- Where each correct replica executed a correct client's outstanding request, the client has its receipt once that
-- comes to them again, and their replies to it; and all go on.
abbrev pub RepliesConvince : Type 0
RepliesConvince =
    (k client : ℕ) → AheadOf (ask_again k) (λ w. AreSizes w.sizes → ShareKeys w → AllGoOn w
    → (asked : IsAsked w k client) → OfCorrect w (λ r. Carries (executed (chronicle_of w r)) asked.command)
    → (run w (ask_again k w) ≡ Ok (after w (ask_again k w))) × AllGoOn (after w (ask_again k w))
    × IsAnswered (after w (ask_again k w)) client (w.session client).used)
