-- How far a proposal's block may stand above the block that it justifies. This is the project's own rule of the running
-- server. No theorem rests on it: what climbs too far is lost, as on any network.
use Rattle.std.specs.Prelude.{ℕ, ◌≡◌, ◌+◌, ◌-◌, ◌*◌, ◌^◌, ◌<◌, ◌≤◌, min, Bool, false, nat_lt, Some, None}
use Rattle.definitions.specs.Frames.{Core, Certificate}
use Rattle.definitions.specs.Rulings.{Input, Input.proposal_in, Input.block_in, Input.offered_in, Input.relayed_in}
use Rattle.definitions.specs.Checks.{Findings}
use Rattle.tuning.specs.declared.links.TheConstants.{MOST_CLIMB}

-- by how many heights a proposal of this view may climb: `MOST_CLIMB`, and as many more for each view before
abbrev pub most_climb : ℕ → ℕ
most_climb view = min (min (view + 1) (2 ^ 64 - 1) * MOST_CLIMB) (2 ^ 64 - 1)

-- the view behind one
abbrev pub next_view : ℕ → ℕ
next_view view = min (view + 1) (2 ^ 64 - 1)

-- a block stands further above the one that it justifies
abbrev pub climbs : Core → (view : ℕ) → Bool
climbs core view = nat_lt (most_climb view) (core.height - core.justify_height)

-- Whether an input brings to a replica in a view of its own a block that climbs further than one of its view may. A
-- proposal of a later view than the next may climb as one of the next, and so may a block that isn't proposed: else who
-- lies names any view.
abbrev pub climbs_too_far : Input → (own : ℕ) → Bool
climbs_too_far (proposal_in view core q found) own = climbs core (min view (next_view own))
climbs_too_far (block_in sender core q found) own = climbs core (next_view own)
climbs_too_far (offered_in (Some view) sender core q found) own = climbs core (min view (next_view own))
climbs_too_far (offered_in None sender core q found) own = climbs core (next_view own)
climbs_too_far (relayed_in senders core q found) own = climbs core (next_view own)
climbs_too_far other own = false

-- Where a proposal doesn't climb too far for one replica, one of a later view doesn't for another, in that view or the
-- one before, that justifies no lower block and stands at most four higher. So a correct leader that begins at the
-- highest certified block it knows may propose above all that was voted for in views before, and four blocks more, by
-- which something is decided.
abbrev pub LeadersPass : Type 0
LeadersPass = (before view there here : ℕ) (voted own : Core) (q r : Certificate) (found then : Findings)
    → before < view → view ≤ next_view here → own.height < 2 ^ 64
    → climbs_too_far (proposal_in before voted q found) there ≡ false
    → voted.justify_height ≤ own.justify_height → own.height ≤ voted.height + 4
    → climbs_too_far (proposal_in view own r then) here ≡ false
