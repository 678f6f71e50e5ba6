-- Which blocks a doorkeeper lets in to its replica. This is the project's own rule of the running server. No
-- theorem rests on it: what it keeps out is lost, as on any network.
use Rattle.std.specs.Prelude.{ℕ, ◌≡◌, ◌==◌, ◌+◌, ◌*◌, ◌-◌, ◌/◌, ◌<◌, ◌≤◌, ◌&&◌, min, Bool, IsTrue, List, [], ◌∷◌, count_by}
use Rattle.std.specs.Prelude.{filter, length, map}
use Rattle.std.specs.Prelude.{nat_lt, nat_le, if◌then◌else◌, Option, Some, None, ⊤}
use Rattle.ids.specs.Sizes.{Sizes, replicas, leader}
use Rattle.ids.specs.declared.limits.TheConstants.{MOST_OF_HEIGHT}
use Rattle.ids.specs.declared.fault.Fault.TheVariants as fault
use Rattle.definitions.specs.Checks.{Identity}
use Rattle.definitions.specs.Chronicles.{Chronicle, taken_blocks}
use Rattle.definitions.specs.Rulings.{Input, Input.proposal_in, Input.block_in, Input.offered_in, Input.relayed_in}
use Rattle.definitions.specs.Rulings.{Ruling.refusing, ruling}
use Rattle.doorkeeper.specs.declared.brought.Brought.{Brought}
use Rattle.tuning.specs.declared.links.TheConstants.{MOST_OF_SENDER}

-- on whose account a block comes in that was asked for on a replica's account, or else came from this sender unasked
abbrev pub account : Sizes → (asked_by : Option ℕ) → (sender : ℕ) → ℕ
account sizes None sender = sender
account sizes (Some payer) sender = if nat_lt payer (replicas sizes) then payer else sender

-- The block that an input brings, and on whose account: a proposal's on that of its view's leader; another one on that
-- of the replica whose frame made this one ask for it, where that is known, and else of its sender, of several the first.
abbrev pub brings : Sizes → (asked_by : Option ℕ) → Input → Option Brought
brings sizes asked_by (proposal_in view core q found) =
    Some (record { height = core.height; payer = leader sizes view })
brings sizes asked_by (offered_in (Some view) sender core q found) =
    Some (record { height = core.height; payer = sender })
brings sizes asked_by (offered_in None sender core q found) =
    Some (record { height = core.height; payer = account sizes asked_by sender })
brings sizes asked_by (block_in sender core q found) =
    Some (record { height = core.height; payer = account sizes asked_by sender })
brings sizes asked_by (relayed_in (sender ∷ others) core q found) =
    let payer = account sizes asked_by sender in
    if nat_lt payer (replicas sizes) then Some (record { height = core.height; payer = payer }) else None
brings sizes asked_by other = None

-- how many of these taken blocks have this height and came in on this account
abbrev pub brought : (height payer : ℕ) → List Brought → ℕ
brought height payer taken = count_by (λ b. (b.height == height) && (b.payer == payer)) taken

-- how many have this height, on whatever account
abbrev pub of_height : ℕ → List Brought → ℕ
of_height height taken = count_by (λ b. b.height == height) taken

-- how many of a height may come in on each of n accounts: `MOST_OF_SENDER`, or fewer where all of them could fill it
abbrev pub most_of_each : ℕ → ℕ
most_of_each n = min MOST_OF_SENDER ((MOST_OF_HEIGHT - 1) / n)

-- a block passes while fewer of its height came in on its account, which is that of one of n replicas
abbrev pub passes : (n : ℕ) → Brought → List Brought → Bool
passes n b taken = nat_lt b.payer n && nat_lt (brought b.height b.payer taken) (most_of_each n)

-- what is remembered where all below a height is forgotten
abbrev pub remembered : ℕ → List Brought → List Brought
remembered base taken = filter (λ b. nat_le base b.height) taken

-- one taken block more, where it isn't below what is remembered
abbrev pub with_block : ℕ → Brought → List Brought → List Brought
with_block base b taken = if nat_le base b.height then b ∷ taken else taken

-- each passed when it came
abbrev pub PassedAll : (n : ℕ) → List Brought → Type 0
PassedAll n [] = ⊤
PassedAll n (b ∷ earlier) = IsTrue (passes n b earlier) × PassedAll n earlier

-- What a doorkeeper knows: how many replicas there are; the blocks that were taken, newest first, none of them
-- below the base; and for how many heights more it has memory.
pub record DoorState : Type 0 where
  pub replicas : ℕ
  pub base : ℕ
  pub taken : List Brought
  pub room : ℕ

-- ---- what the rule is for

-- with at most fifteen replicas, where three blocks of a height came in on an account at most, one more may
abbrev pub FewPass : Type 0
FewPass = (n : ℕ) (b : Brought) (taken : List Brought) → n ≤ 15 → b.payer < n
    → brought b.height b.payer taken ≤ 3 → IsTrue (passes n b taken)

-- what comes in on another account changes nothing
abbrev pub OthersDontCount : Type 0
OthersDontCount = (n : ℕ) (b other : Brought) (taken : List Brought) → (other.payer ≡ b.payer → ⊥)
    → passes n b (other ∷ taken) ≡ passes n b taken

-- on n accounts n times as many blocks of a height come in at most
abbrev pub FewOfHeight : Type 0
FewOfHeight = (n height : ℕ) (taken : List Brought) → PassedAll n taken
    → of_height height taken ≤ n * most_of_each n

-- however many replicas there are, fewer of a height come in than a tree takes, whoever asks whom, and whoever lies
abbrev pub NeverCrowded : Type 0
NeverCrowded = (n height : ℕ) (taken : List Brought) → PassedAll n taken
    → of_height height taken < MOST_OF_HEIGHT

-- how many of a height come in at most, with f faulty replicas
abbrev pub most_of_height : (f : ℕ) → ℕ
most_of_height f = let n = 3 * f + 1 in n * most_of_each n

-- so many for f = 1 to 10
abbrev pub MostOfHeight : Type 0
MostOfHeight = map most_of_height (1 ∷ 2 ∷ 3 ∷ 4 ∷ 5 ∷ 6 ∷ 7 ∷ 8 ∷ 9 ∷ 10 ∷ [])
    ≡ 16 ∷ 28 ∷ 40 ∷ 52 ∷ 48 ∷ 57 ∷ 44 ∷ 50 ∷ 56 ∷ 62 ∷ []

-- these are the blocks that a replica took: each with its height
abbrev pub AreTakenIn : Chronicle → List Brought → Type 0
AreTakenIn c taken = map (λ b. b.height) taken ≡ map (λ a. length a.branch) (taken_blocks c)

-- A replica each of whose taken blocks passed when it came refuses no input because a height has as many
-- blocks as it may have.
abbrev pub NoneCrowdedOut : Type 0
NoneCrowdedOut = (self : Identity) (i : Input) (c : Chronicle) (n : ℕ) (taken : List Brought)
    → PassedAll n taken → AreTakenIn c taken → ruling self i c ≡ refusing fault.Crowded → ⊥
