-- A tree of seven blocks in direct succession, each of which justifies the one below it, at the horizon 4.
use Rattle.ids.specs.declared.limits.TheConstants.{MOST_BLOCKS}
use Rattle.ids.specs.declared.fault.Fault.TheVariants as fault
use Rattle.std.specs.Prelude.{ℕ, zero, suc, ◌≡◌, true, List, [], ◌∷◌, map, length}
use Rattle.definitions.specs.Bytes.{Bytes}
use Rattle.definitions.specs.Branches.{Branch, just1}
use Rattle.definitions.specs.Digests.{digest_of, core_of}
use Rattle.definitions.specs.Frames.{Certificate}
use Rattle.definitions.specs.Trees.{Stored, blocks, standing, Placing, Placing.stands, Placing.grows}
use Rattle.definitions.specs.Trees.{Placing.lacks_parent, Placing.unfit, placing}
use Rattle.worked_examples.specs.Chains.{on}

-- so many empty blocks, each of which justifies the one below it
abbrev pub chain : ℕ → Branch
chain zero = []
chain (suc n) = on n (chain n)

-- a certificate for the block of this digest
abbrev pub certificate_for : Bytes → Certificate
certificate_for d = record { digest = d; votes = [] }

-- a block as a tree stores it
abbrev pub stored : Branch → Stored
stored b = record { branch = b; certificate = certificate_for (digest_of (just1 b)); clear = true }

-- inserted in this order
abbrev pub seven : List Stored
seven = map (λ n. stored (chain n)) (7 ∷ 6 ∷ 5 ∷ 4 ∷ 3 ∷ 2 ∷ 1 ∷ [])

-- what the block comes to at this horizon, with this certificate
abbrev pub place_with : ℕ → Branch → Certificate → Placing
place_with horizon b q = placing horizon MOST_BLOCKS (core_of b) q (blocks (standing horizon seven))

-- and with the certificate of what it justifies
abbrev pub place_at : ℕ → Branch → Placing
place_at horizon b = place_with horizon b (certificate_for (digest_of (just1 b)))

-- the heights from two below the horizon on, and genesis
abbrev pub TwoBelowStand : Type 0
TwoBelowStand = map length (blocks (standing 4 seven)) ≡ 7 ∷ 6 ∷ 5 ∷ 4 ∷ 3 ∷ 2 ∷ 0 ∷ []

-- genesis alone
abbrev pub GenesisStays : Type 0
GenesisStays = blocks (standing 10 seven) ≡ [] ∷ []

-- a block that justifies the horizon is known, and one that does may stand
abbrev pub JustifiesTheHorizon : Type 0
JustifiesTheHorizon =
    (place_at 4 (chain 5) ≡ stands (chain 5)) × (place_at 4 (on 4 (chain 7)) ≡ grows (on 4 (chain 7)))

-- A block that justifies one below it is refused: the first one, which stands no more; the fourth, which
-- does, also with a certificate for another block; and a new one.
abbrev pub JustifiesBelow : Type 0
JustifiesBelow =
    (place_at 4 (chain 1) ≡ unfit fault.Pruned) × (place_at 4 (chain 4) ≡ unfit fault.Pruned)
    × (place_with 4 (chain 4) (certificate_for []) ≡ unfit fault.Pruned)
    × (place_at 4 (on 3 (chain 7)) ≡ unfit fault.Pruned)

-- Of a block that justifies none below it the other tests decide: a block that stands has another
-- certificate; the parent of a new one is pruned.
abbrev pub OtherTests : Type 0
OtherTests =
    (place_with 4 (chain 5) (certificate_for []) ≡ unfit fault.WrongJustify)
    × (place_at 4 (on 4 (chain 1)) ≡ lacks_parent)

-- without a pruning each of them is known, or may stand
abbrev pub BeforeThePruning : Type 0
BeforeThePruning =
    (place_at 0 (chain 1) ≡ stands (chain 1)) × (place_at 0 (chain 4) ≡ stands (chain 4))
    × (place_at 0 (on 3 (chain 7)) ≡ grows (on 3 (chain 7)))
