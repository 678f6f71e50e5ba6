use Rattle.std.proofs.Common.{refl, ap, sym, subst, ◌∙◌, Ok}
use Rattle.definitions.specs.Trees.{blocks, placing}
use Rattle.frames_view.specs.Views.{core_of, certificate_of}
use Rattle.block_tree.specs.declared.node.Node.{Node}
use Rattle.block_tree.specs.Insertions.{IsNodeFor}
use Rattle.block_tree.proofs.Planning.{planned-grows, growth-node, growth-room}
use Rattle.block_tree.proofs.tree.Tree.plan.Goals as goal

pub returns-in_ok-node-in-Grows : goal.returns-in_ok-node-in-Grows
returns-in_ok-node-in-Grows c =
    let t = c.args.self.now in
    let core = core_of c.args.core.now in
    let q = certificate_of c.args.certificate.now in
    let answer = ap Ok (sym c.in-Grows.is) ∙ c.in_ok-placing.ensures in
    let node : Node = record {
      digest = c.digest-digest.result;
      core = core;
      certificate = q;
      clear = c.args.clear;
    } in
    let below = c.args.core.now.fields.below in
    let is : IsNodeFor t core q c.args.clear node = record {
      digest = c.digest-digest.ensures;
      core = refl;
      certificate = refl;
      clear = refl;
      may_stand = record {
        node = growth-node t.horizon t.most node (blocks t.stored) c.digest-digest.ensures below answer;
        room = growth-room t.horizon t.most node (blocks t.stored) c.digest-digest.ensures below answer;
      };
    } in
    planned-grows t core q c.args.clear c.in_ok-node-in-Grows.node
    (placing t.horizon t.most core q (blocks t.stored)) answer
    (subst (IsNodeFor t core q c.args.clear) (sym c.in_ok-node-in-Grows.ensures) is)
