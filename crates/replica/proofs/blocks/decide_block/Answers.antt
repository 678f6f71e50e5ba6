use Rattle.std.proofs.Common.{subst, Ok}
use Rattle.definitions.specs.Trees.{TreeState, blocks, placing}
use Rattle.block_tree.specs.declared.insert.Plan.{Plan}
use Rattle.block_tree.specs.declared.insert.Plan.TheVariants.{Grows}
use Rattle.block_tree.specs.Insertions.{IsPlanned}
use Rattle.block_tree.proofs.Planning.{node-planned}
use Rattle.replica.specs.Kept.{StateParts}
use Rattle.replica.specs.Kept.{tree_of}
use Rattle.replica.specs.Offers.{Offered}
use Rattle.replica.proofs.Offers.{grown-decided}
use Rattle.replica.proofs.blocks.decide_block.Goals as goal

-- what was planned, of the tree and what came
abbrev IsPlannedFor : TreeState → Offered → Plan → Type 0
IsPlannedFor t o p = IsPlanned t o.core o.certificate o.found.clear (Ok p)
    (placing t.horizon t.most o.core o.certificate (blocks t.stored))

pub returns-in-Grows : goal.returns-in-Grows
returns-in-Grows c =
    let k = c.args.state.now in
    let o = c.args.offer.now in
    let planned : IsPlannedFor (tree_of k.variables) o (Grows c.in-Grows.node) =
    subst (IsPlannedFor (tree_of k.variables) o) c.in-Grows.is
    (subst (λ (x : StateParts). IsPlannedFor (tree_of x.variables) o c.in_ok-digest.field-0) c.state.view_is
    (subst (λ (x : Offered). IsPlannedFor c.state.inside.tree x c.in_ok-digest.field-0) c.offer.view_is
    c.in_ok-digest.ensures)) in
    grown-decided c.args.keyring.now k o c.in-Grows.node _ planned c.grow.result c.grow.ensures

pub grow-requires : goal.grow-requires
grow-requires c =
    let k = c.args.state.now in
    let o = c.args.offer.now in
    let planned : IsPlannedFor (tree_of k.variables) o (Grows c.in-Grows.node) =
    subst (IsPlannedFor (tree_of k.variables) o) c.in-Grows.is
    (subst (λ (x : StateParts). IsPlannedFor (tree_of x.variables) o c.in_ok-digest.field-0) c.state.view_is
    (subst (λ (x : Offered). IsPlannedFor c.state.inside.tree x c.in_ok-digest.field-0) c.offer.view_is
    c.in_ok-digest.ensures)) in
    record {
      node = node-planned (tree_of k.variables) o.core o.certificate o.found.clear c.in-Grows.node _ planned;
    }
