-- What is planned for a block, and what an insertion answers and leaves.
use Rattle.std.specs.Prelude.{◌≡◌, ◌<◌, ◌⊎◌, Bool, ◌∷◌, length, Result, Ok, Err, MatchResult}
use Rattle.ids.specs.declared.fault.Fault.{Fault}
use Rattle.ids.specs.declared.fault.Fault.TheVariants as fault
use Rattle.definitions.specs.Bytes.{Bytes}
use Rattle.definitions.specs.Frames.{Core, Certificate}
use Rattle.definitions.specs.Digests.{digest}
use Rattle.definitions.specs.Trees.{TreeState, blocks, Placing, Placing.stands, Placing.grows}
use Rattle.definitions.specs.Trees.{Placing.lacks_parent, Placing.unfit, placing}
use Rattle.block_tree.specs.declared.place.Place.{Place}
use Rattle.block_tree.specs.declared.place.Place.TheVariants as place
use Rattle.block_tree.specs.declared.node.Node.{Node}
use Rattle.block_tree.specs.declared.insert.Plan.{Plan}
use Rattle.block_tree.specs.declared.insert.Plan.TheVariants.{Stands, Grows}
use Rattle.block_tree.specs.Nodes.{IsNode}

-- a node may be added to a tree
pub record MayStand (t : TreeState) (n : Node) : Type 0 where
  pub node : IsNode t.horizon n (blocks t.stored)
  pub room : length (blocks t.stored) < t.most

-- the node that is planned for a new block
pub record IsNodeFor (t : TreeState) (block : Core) (q : Certificate) (mark : Bool) (n : Node) : Type 0 where
  pub digest : n.digest ≡ digest block
  pub core : n.core ≡ block
  pub certificate : n.certificate ≡ q
  pub clear : n.clear ≡ mark
  pub may_stand : MayStand t n

-- what is planned for it
abbrev pub IsGrowing : TreeState → Core → Certificate → Bool → Plan → Type 0
IsGrowing t core q clear (Grows n) = IsNodeFor t core q clear n
IsGrowing t core q clear (Stands d) = ⊥

-- what is planned for a block that comes to this
abbrev pub IsPlanned : TreeState → Core → Certificate → Bool → Result Plan Fault → Placing → Type 0
IsPlanned t core q clear result (stands b) = result ≡ Ok (Stands (digest core))
IsPlanned t core q clear result (grows b) =
    MatchResult result (IsGrowing t core q clear) (λ n. n ≡ fault.Memory)
IsPlanned t core q clear result lacks_parent = result ≡ Err fault.UnknownParent
IsPlanned t core q clear result (unfit n) = result ≡ Err n

-- what is answered where a block comes to this
abbrev pub place_of : Placing → Result Place Fault
place_of (stands b) = Ok place.Stands
place_of (grows b) = Ok place.Grows
place_of lacks_parent = Err fault.UnknownParent
place_of (unfit n) = Err n

-- what an insertion answers and leaves, where the block comes to this
abbrev pub InsertedAt : TreeState → Core → Certificate → Bool → Result Bytes Fault → TreeState → Placing
    → Type 0
InsertedAt old core q clear result new (stands b) = (result ≡ Ok (digest core)) × (new ≡ old)
InsertedAt old core q clear result new (grows b) =
    ((result ≡ Ok (digest core))
    × (new ≡ record {
      most = old.most;
      horizon = old.horizon;
      stored = record { branch = b; certificate = q; clear = clear } ∷ old.stored;
    }))
    ⊎ ((result ≡ Err fault.Memory) × (new ≡ old))
InsertedAt old core q clear result new lacks_parent = (result ≡ Err fault.UnknownParent) × (new ≡ old)
InsertedAt old core q clear result new (unfit n) = (result ≡ Err n) × (new ≡ old)

-- what an insertion answers and leaves: a block that may stand does afterwards, unless memory is refused
abbrev pub Inserted : TreeState → Core → Certificate → Bool → Result Bytes Fault → TreeState → Type 0
Inserted old core q clear result new =
    InsertedAt old core q clear result new (placing old.horizon old.most core q (blocks old.stored))
