-- A block that comes, and what taking it in changes.
use Rattle.ids.specs.declared.fault.Fault.{Fault}
use Rattle.ids.specs.declared.fault.Fault.TheVariants as fault
use Rattle.ids.specs.declared.kind.Kind.TheVariants as kind
use Rattle.ids.specs.Sizes.{leader}
use Rattle.std.specs.Prelude.{ℕ, ◌≡◌, ◌⊎◌, ◌==◌, ◌&&◌, Bool, false, List, [], ◌∷◌, length, if◌then◌else◌}
use Rattle.std.specs.Prelude.{Option, Some, None, Result, Ok, Err, MatchResult}
use Rattle.definitions.specs.Bytes.{Bytes}
use Rattle.definitions.specs.Frames.{Core, Certificate, vote, spelling}
use Rattle.definitions.specs.Keyrings.{Keys, keyring_of, vector_for}
use Rattle.definitions.specs.Checks.{Findings}
use Rattle.definitions.specs.Digests.{digest}
use Rattle.definitions.specs.Sendings.{to_party}
use Rattle.definitions.specs.Trees.{Stored, blocks, find_in, Placing, Placing.stands, Placing.grows}
use Rattle.definitions.specs.Trees.{Placing.lacks_parent, Placing.unfit, placing}
use Rattle.block_tree.specs.declared.node.Node.{Node}
use Rattle.block_tree.specs.Insertions.{IsNodeFor}
use Rattle.replica_rules.specs.declared.block_ref.BlockRef.{BlockRef}
use Rattle.replica_rules.specs.Ruled.{Ruled, with_vote}
use Rattle.replica_rules.specs.Votes.{candidate_of, may_vote_in, may_vote_over}
use Rattle.replica_rules.specs.Chains.{ruled_after}
use Rattle.replica.specs.declared.state.High.{High}
use Rattle.replica.specs.declared.stored.StoredStep.{StoredStep}
use Rattle.replica.specs.declared.stored.StoredStep.TheVariants.{TookNew, TookAgain}
use Rattle.replica.specs.declared.change.Change.{Change}
use Rattle.replica.specs.declared.change.Growth.TheVariants.{Block}
use Rattle.signed_frames.specs.Outs.{SentBytes}
use Rattle.replica.specs.Kept.{StateParts}
use Rattle.replica.specs.Changes.{noting, raise_of, leaf_after}
use Rattle.replica.specs.Kept.{tree_of}

-- A block with its certificate and what a check found of them, the replicas that sent it, where it is to be taken
-- for their number, and the view that it was proposed for, if it was.
pub record Offered : Type 0 where
  pub core : Core
  pub certificate : Certificate
  pub found : Findings
  pub senders : List ℕ
  pub view : Option ℕ

-- it was proposed for this view
abbrev pub is_for : ℕ → Option ℕ → Bool
is_for view None = false
is_for view (Some w) = w == view

-- the block that it justifies, as its certificate names it
abbrev pub justified_of : Offered → BlockRef
justified_of o = record { digest = o.certificate.digest; height = o.core.justify_height }

-- its certificate with that block
abbrev pub high_in : Offered → High
high_in o = record { block = justified_of o; certificate = o.certificate }

-- a vote goes to the leader
abbrev pub vote_sent : Keys → ℕ → Bytes → SentBytes
vote_sent keys view d = (
  to_party (leader keys.sizes view),
  kind.Vote,
  spelling (vote d
      (record { voter = keys.party; vector = vector_for keys.sizes (keyring_of keys) kind.Vote d })),
)

abbrev pub votes_sent : Keys → ℕ → Bytes → Bool → List SentBytes
votes_sent keys view d voted = if voted then vote_sent keys view d ∷ [] else []

-- ---- a block that stands in the tree

abbrev pub votes_again : StateParts → Offered → Bool
votes_again s o =
    is_for s.pace.view o.view && may_vote_in s.variables.rules (digest o.core) s.variables.stored

-- the rules after a vote for a block of the tree, if one was given
abbrev pub with_vote_in : Bool → Bytes → List Stored → Ruled → Ruled
with_vote_in voted d stored r =
    elim (find_in d (blocks stored)) [ Some b ↦ with_vote voted (length b) r | None ↦ r ]

-- as it is stored
abbrev pub again_step : Offered → Bool → StoredStep
again_step o voted = TookAgain (record {
  core = o.core;
  certificate = o.certificate;
  counted = o.found.counted;
  clear = o.found.clear;
  voted = voted;
})

abbrev pub again_change : Keys → StateParts → Offered → Change
again_change keys s o =
    let v = s.variables in
    let voted = votes_again s o in
    record (noting v (again_step o voted) (votes_sent keys s.pace.view (digest o.core) voted)) {
      rules = with_vote_in voted (digest o.core) v.stored v.rules;
    }

-- ---- a new block

abbrev pub votes_new : StateParts → Offered → Bool
votes_new s o =
    is_for s.pace.view o.view
    && may_vote_over s.variables.rules (candidate_of o.core o.found.clear) s.variables.stored

abbrev pub new_change : Keys → StateParts → Offered → Node → Ruled → Change
new_change keys s o n rules =
    let v = s.variables in
    let voted = votes_new s o in
    let high = raise_of (high_in o) v.high in
    let step = TookNew (record { counted = o.found.counted; senders = o.senders; voted = voted }) in
    record (noting v step (votes_sent keys s.pace.view (digest o.core) voted)) {
      growth = Block n;
      rules = with_vote voted o.core.height rules;
      high = high;
      leaf = leaf_after high v.high v.leaf;
    }

-- it is taken by these rules and as this node
pub record IsTaken (keys : Keys) (s : StateParts) (o : Offered) (d : Change) : Type 0 where
  pub rules : Ruled
  pub node : Node
  pub ruled : ruled_after s.variables.rules (justified_of o) s.variables.stored ≡ Ok rules
  pub its_node : IsNodeFor (tree_of s.variables) o.core o.certificate o.found.clear node
  pub change : d ≡ new_change keys s o node rules

-- what is decided of a block that grows the tree
abbrev pub IsGrown : Keys → StateParts → Offered → Result Change Fault → Type 0
IsGrown keys s o result = MatchResult result (IsTaken keys s o) (λ n. (n ≡ fault.Memory)
    ⊎ (ruled_after s.variables.rules (justified_of o) s.variables.stored ≡ Err n))

-- ---- what is decided of a block that comes to this

abbrev pub IsDecidedAt : Keys → StateParts → Offered → Result Change Fault → Placing → Type 0
IsDecidedAt keys s o result (stands b) =
    MatchResult result (λ d. d ≡ again_change keys s o) (λ n. n ≡ fault.Memory)
IsDecidedAt keys s o result (grows b) = IsGrown keys s o result
IsDecidedAt keys s o result lacks_parent = result ≡ Err fault.UnknownParent
IsDecidedAt keys s o result (unfit n) = result ≡ Err n

abbrev pub IsDecided : Keys → StateParts → Offered → Result Change Fault → Type 0
IsDecided keys s o result =
    IsDecidedAt keys s o result
    (placing s.variables.horizon s.variables.most o.core o.certificate (blocks s.variables.stored))
