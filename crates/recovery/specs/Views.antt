-- Timeouts bring correct replicas together.
use Rattle.std.specs.Prelude.{ℕ, ◌^◌, ◌≡◌, ◌<◌, ◌≤◌, true}
use Rattle.std.specs.Prelude.{Ok}
use Rattle.ids.specs.Sizes.{leader}
use Rattle.definitions.specs.Branches.{Branch}
use Rattle.definitions.specs.Checks.{Identity}
use Rattle.definitions.specs.Chronicles.{Chronicle, voted_blocks, taken_blocks}
use Rattle.definitions.specs.Chronicles.{horizon}
use Rattle.definitions.specs.Runs.{run, after}
use Rattle.definitions.specs.States.{votes, qc_high, leaf, pending}
use Rattle.definitions.specs.Worlds.{World, is_correct, self_of}
use Rattle.recovery.specs.Correct.{OfCorrect, AllGoOn, chronicle_of, view_of}
use Rattle.recovery.specs.Healing.{view_to_come, come_to}
use Rattle.recovery.specs.NeverWedged.{HasViews}

-- a replica is as it was, but for its view
pub record OnlyViewMoved (self : Identity) (before now : Chronicle) : Type 0 where
  pub taken : taken_blocks now ≡ taken_blocks before
  pub voted : voted_blocks now ≡ voted_blocks before
  pub forgotten : horizon now ≡ horizon before
  pub kept : (b : Branch) → votes self.sizes b now ≡ votes self.sizes b before
  pub certified : qc_high self.sizes now ≡ qc_high self.sizes before
  pub leaf_is : leaf self now ≡ leaf self before
  pub waiting : pending now ≡ pending before

-- Timeouts name only who is there. All correct replicas go on, in this view, and nothing else of them or of a client
-- changed.
pub record CameTo (v : ℕ) (w last : World) : Type 0 where
  pub ran : run w (come_to v w) ≡ Ok last
  pub going_on : AllGoOn last
  pub views : OfCorrect last (λ r. view_of last r ≡ v)
  pub rest : OfCorrect last (λ r. OnlyViewMoved (self_of w r) (chronicle_of w r) (chronicle_of last r))
  pub session : last.session ≡ w.session

-- timeouts alone bring all correct replicas of any world into any view that none of them passed
abbrev pub TimeoutsBringTogether : Type 0
TimeoutsBringTogether =
    (w : World) (v : ℕ) → AllGoOn w → v < 2 ^ 64 → OfCorrect w (λ r. view_of w r ≤ v)
    → CameTo v w (after w (come_to v w))

-- so they come into one that a correct replica leads, while views are left
abbrev pub ACorrectLeaderComes : Type 0
ACorrectLeaderComes =
    (w : World) (l : ℕ) → is_correct w l ≡ true → AllGoOn w → HasViews w
    → (leader w.sizes (view_to_come l w) ≡ l)
    × CameTo (view_to_come l w) w (after w (come_to (view_to_come l w) w))
